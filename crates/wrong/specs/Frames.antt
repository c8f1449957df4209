-- The small frames that tell the wrong decoders apart, as they are lent: document 01, "Layout", written out. Every sample and every workspace
-- word is 9 before. Each frame begins with 32 bytes that nobody reads and entry 0, which "isn't used". Assumes nothing.
use Rattle.std.specs.Prelude.{ℕ, ◌-◌, Bool, true, false, [], ◌∷◌, ◌++◌, length, replicate}
use Rattle.scope.specs.Base.{Bytes, Lengths}
use Rattle.scope.specs.declared.Entry.TheVariants.{Eight, Deep}
use Rattle.scope.specs.declared.Family.{Family}
use Rattle.scope.specs.declared.Family.TheVariants.{Gray, Rgb}
use Rattle.scope.specs.declared.Geometry.{Geometry}
use Rattle.wrong.specs.Calls.{Lent}

-- a little-endian entry below 256
abbrev pub le : (n : ℕ) (rest : Bytes) → Bytes
le n rest = n ∷ 0 ∷ 0 ∷ 0 ∷ rest

-- a geometry without factors
abbrev pub plain : (family : Family) (w h sh depth : ℕ) (interlaced : Bool) → Geometry
plain family w h sh depth two =
    record { width = w; height = h; slice_height = sh; family = family; sx = 1; sy = 1; depth = depth; interlaced = two }

-- a plane's lengths of depth 8: those of the first symbols, and no other word
abbrev pub padded : (ls : Lengths) → Lengths
padded ls = ls ++ replicate (256 - length ls) 0

-- lent at depth 8: n samples, and room for so many words
abbrev pub lent8 : (frame : Bytes) (g : Geometry) (lengths : Lengths) (n room : ℕ) → Lent
lent8 frame g lengths n room =
    record { which = Eight; frame = frame; geometry = g; lengths = lengths; planes = replicate n 9; workspace = replicate room 9 }

-- Gray 1×1, one slice of predictor Left with one byte: raw for flag 1, coded under the lengths for flag 0
unfoldable pub dot : (flag byte : ℕ) (ls : Lengths) (room : ℕ) → Lent
dot flag byte ls room = lent8 (replicate 36 0 ++ le 10 (1 ∷ 0 ∷ flag ∷ 1 ∷ byte ∷ [])) (plain Gray 1 1 1 8 false) (padded ls) 1 room

-- Gray 1×2 in two raw slices of one row, 7 and 8, whose predictor bytes are j and k
unfoldable pub pair : (j k : ℕ) → Lent
pair j k =
    lent8 (replicate 36 0 ++ le 15 (le 18 (1 ∷ 0 ∷ 0 ∷ 1 ∷ j ∷ 7 ∷ 1 ∷ k ∷ 8 ∷ []))) (plain Gray 1 2 1 8 false) (padded []) 2 4

-- Rgb 1×1, one raw slice a plane: 10 of plane 1 (G), 250 of plane 2 (R'), 5 of plane 0 (B'); b and g are the lengths of the planes B' and G
unfoldable pub colours : (b g : Lengths) → Lent
colours b g =
    lent8 (replicate 36 0 ++ le 20 (le 23 (le 26 (3 ∷ 1 ∷ 2 ∷ 0 ∷ 1 ∷ 1 ∷ 10 ∷ 1 ∷ 1 ∷ 250 ∷ 1 ∷ 1 ∷ 5 ∷ []))))
    (plain Rgb 1 1 1 8 false) (padded b ++ (padded g ++ padded [])) 3 4

-- Gray 1×3 in two fields, one raw slice of predictor Left with the residues 1, 2, 3
unfoldable pub column : Lent
column = lent8 (replicate 36 0 ++ le 10 (1 ∷ 0 ∷ 1 ∷ 1 ∷ 1 ∷ 2 ∷ 3 ∷ [])) (plain Gray 1 3 3 8 true) (padded []) 3 4

-- Gray 2×2, one raw slice of predictor Median. The residues 10, 90, 190, 0 make left 200, top 100 and top-left 10 for the last sample.
unfoldable pub square : Lent
square = lent8 (replicate 36 0 ++ le 10 (1 ∷ 0 ∷ 1 ∷ 3 ∷ 10 ∷ 90 ∷ 190 ∷ 0 ∷ [])) (plain Gray 2 2 2 8 false) (padded []) 4 4

-- The same at depth 10: residues 10, 890, 990, 0, packed, make left 1000, top 900 and top-left 10.
unfoldable pub deep_square : Lent
deep_square =
    record {
      which = Deep;
      frame = replicate 36 0 ++ le 10 (1 ∷ 0 ∷ 1 ∷ 3 ∷ 0b0000_0010 ∷ 0b1011_0111 ∷ 0b1010_1111 ∷ 0b0111_1000 ∷ 0b0000_0000 ∷ []);
      geometry = plain Gray 2 2 2 10 false;
      lengths = replicate 1024 0;
      planes = replicate 4 9;
      workspace = replicate 4 9;
    }
