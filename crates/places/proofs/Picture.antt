-- Document 01's picture sample by sample: all that specs/Picture.antt says of it, wherever the answer is planes. Assumes nothing.
use mathlib.Core.Path.{◌≡◌}
use Prim.Native.Nat.{ℕ}
use native.Mathlib.Omega.{arith}
use Rattle.scope.specs.Base.{Bytes, Lengths}
use Rattle.scope.specs.Frame.{answer_of, picture_of}
use Rattle.scope.specs.declared.Entry.{Entry}
use Rattle.scope.specs.declared.Geometry.{Geometry}
use Rattle.scope.specs.Answers.{done}
use Rattle.places.specs.Picture.{Pictured}
use Rattle.places.proofs.Passed.{Passed, passed}
use Rattle.places.proofs.Covering.{row_covered, row_once}
use Rattle.places.proofs.Rows.{picture_below, picture_size, picture_rows}
use Rattle.places.proofs.Only.{same_buffer}

pub pictured : (which : Entry) (frame : Bytes) (g : Geometry) (lengths : Lengths) (planes_len workspace_len : ℕ)
    → answer_of which frame g lengths planes_len workspace_len ≡ done → Pictured frame g lengths
pictured which frame g lengths planes_len workspace_len well =
    let ok : Passed frame g lengths = passed which frame g lengths planes_len workspace_len well in
    record {
      size = picture_size frame g lengths ok;
      below = λ i l. picture_below frame g lengths i (omega (arith, l, picture_size frame g lengths ok));
      rows = picture_rows frame g lengths ok;
      covered = row_covered frame g lengths ok;
      once = row_once frame g;
      only = λ buffer e h. same_buffer frame g lengths buffer (picture_of frame g lengths) h (picture_rows frame g lengths ok) ok e (picture_size frame g lengths ok);
    }
