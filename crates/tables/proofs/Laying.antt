-- The tables of a frame's planes as they are laid, one after another, each into the stretch that the codes name (document 01, "Vectors of
-- vectors become stretches of the lent workspace"). Laws of lists: lib.ListN and lib.Seq. Assumes nothing.
use mathlib.Core.Path.{◌≡◌, refl, sym, ap, ◌∙◌}
use mathlib.Core.List.{List, ◌++◌, append_assoc}
use Prim.Native.Nat.{ℕ, zero, suc, ◌+◌, ◌-◌, ◌*◌, ◌^◌, ◌≤◌, ◌<◌}
use native.Mathlib.Decide.{ℕ_discrete}
use native.Mathlib.Numerals.{add-one}
use native.Mathlib.Omega.{arith}
use lib.ListN.{length, take, drop, get_or, length-append}
use lib.Seq.{take_at, drop_at, drop-drop}
use Rattle.scope.specs.Base as base
use Rattle.scope.specs.Base.{sum_below}
use Rattle.scope.specs.Geometry.{plane_count, lengths_of}
use Rattle.scope.specs.Words.{longest, shares, need}
use Rattle.scope.specs.Lookup.{table_of}
use Rattle.scope.specs.Frame as frm
use Rattle.scope.specs.Frame.{need_of_all}
use Rattle.scope.specs.declared.Geometry.{Geometry}
use Rattle.scope.specs.Answers.{done}
use Rattle.lists.specs.Parts.{part, replaced}
use Rattle.codes.proofs.Table.{table_length}
use Rattle.geometry.proofs.Lengths.{part_is}
use Rattle.tables.specs.Tables.{plane_need, table_start, tables_up_to, with_tables, Tables}
use Rattle.tables.specs.Codes.{codes_of}
use Rattle.tables.specs.declared.Codes.{Codes}
use Rattle.tables.proofs.Told.{plane_passed, plane_short, plane_full, from_is, longest_is, stretch_size}

-- ---- `build_plane`: n lengths a plane, plane p's from p * n on

module _ (g : Geometry) (lengths : List ℕ) (c : Codes) (is : c ≡ codes_of g lengths) (ok : c.answer ≡ done) (p : ℕ) (l : p < plane_count g)
    (n : ℕ) (en : n ≡ 2 ^ g.depth) where
  -- what `build_part` asks of the lengths
  pub lay_short : longest (take (p * n + n - p * n) (drop (p * n) lengths)) ≤ 18
  lay_short = rw (part_is g lengths p n en) (plane_short g lengths p (plane_passed g lengths c is ok p l))

  pub lay_full : shares (take (p * n + n - p * n) (drop (p * n) lengths)) ≤ 262144
  lay_full = rw (part_is g lengths p n en) (plane_full g lengths p (plane_passed g lengths c is ok p l))

  pub lay_longest : get_or c.longest p 0 ≡ longest (take (p * n + n - p * n) (drop (p * n) lengths))
  lay_longest = rw (part_is g lengths p n en) (longest_is g lengths c is ok p l)

  -- and of the stretch
  pub lay_size : get_or c.to p 0 - get_or c.from p 0 ≡ need (take (p * n + n - p * n) (drop (p * n) lengths))
  lay_size = rw (part_is g lengths p n en) (stretch_size g lengths c is ok p l)

  -- the table is laid
  pub lay_table : (ws ws' : List ℕ)
      → ws' ≡ replaced ws (get_or c.from p 0) (get_or c.to p 0 - get_or c.from p 0) (table_of (take (p * n + n - p * n) (drop (p * n) lengths)))
      → ws' ≡ replaced ws (table_start g lengths p) (plane_need g lengths p) (table_of (lengths_of g lengths p))
  lay_table ws ws' e =
      e
      ∙ ap (λ (x : List ℕ). replaced ws (get_or c.from p 0) (get_or c.to p 0 - get_or c.from p 0) (table_of x)) (part_is g lengths p n en)
      ∙ ap (λ (x : ℕ). replaced ws (get_or c.from p 0) x (table_of (lengths_of g lengths p))) (stretch_size g lengths c is ok p l)
      ∙ ap (λ (x : ℕ). replaced ws x (plane_need g lengths p) (table_of (lengths_of g lengths p))) (from_is g lengths c is ok p l)

-- ---- `build_all`

module _ (g : Geometry) (lengths : List ℕ) where
  -- the tables of the planes below n are as long as where the next one starts
  tables_long : (n : ℕ) → length (tables_up_to g lengths n) ≡ table_start g lengths n
  unfolding tables_up_to table_start base.sum_below
  tables_long zero = refl
  tables_long (suc n) =
      omega (arith, length-append (tables_up_to g lengths n) (table_of (lengths_of g lengths n)), tables_long n, table_length (lengths_of g lengths n))

  -- each of them stands in its stretch, whatever is behind
  tables_at : (n p : ℕ) (rest : List ℕ) → p < n → part (tables_up_to g lengths n ++ rest) (table_start g lengths p) (plane_need g lengths p) ≡ table_of (lengths_of g lengths p)
  unfolding tables_up_to
  tables_at zero p rest l = absurd (omega arith)
  tables_at (suc n) p rest l = rw (append_assoc (tables_up_to g lengths n) (table_of (lengths_of g lengths n)) rest) (go (ℕ_discrete p n) (tables_at n p (table_of (lengths_of g lengths n) ++ rest)))
    where
      go : Dec (p ≡ n)
          → (p < n → part (tables_up_to g lengths n ++ (table_of (lengths_of g lengths n) ++ rest)) (table_start g lengths p) (plane_need g lengths p) ≡ table_of (lengths_of g lengths p))
          → part (tables_up_to g lengths n ++ (table_of (lengths_of g lengths n) ++ rest)) (table_start g lengths p) (plane_need g lengths p) ≡ table_of (lengths_of g lengths p)
      go (no e) h = h (omega (arith, e))
      go (yes e) h =
          rw (e, drop_at (tables_up_to g lengths n) (table_of (lengths_of g lengths n) ++ rest) (table_start g lengths n) (tables_long n))
          (take_at (table_of (lengths_of g lengths n)) rest (plane_need g lengths n) (table_length (lengths_of g lengths n)))

  -- one table more in front of what is left of the workspace
  lay_more : (found : List ℕ) (p : ℕ)
      → replaced (tables_up_to g lengths p ++ drop (table_start g lengths p) found) (table_start g lengths p) (plane_need g lengths p) (table_of (lengths_of g lengths p))
      ≡ tables_up_to g lengths (suc p) ++ drop (table_start g lengths (suc p)) found
  unfolding tables_up_to table_start base.sum_below
  lay_more found p = laid (tables_up_to g lengths p) (table_of (lengths_of g lengths p)) (table_start g lengths p) (plane_need g lengths p) (tables_long p)
    where
      laid : (xs ts : List ℕ) (at n : ℕ) → length xs ≡ at → replaced (xs ++ drop at found) at n ts ≡ (xs ++ ts) ++ drop (at + n) found
      laid xs ts at n e =
          rw (take_at xs (drop at found) at e, drop_at xs (drop at found) at e, drop-drop n at found) (sym (append_assoc xs ts (drop (at + n) found)))

  -- the workspace with the tables of the planes below p, and behind them as it was found
  pub record LaidBefore (found ws : List ℕ) (planes p : ℕ) : Type 0 where
    pub holds : ws ≡ tables_up_to g lengths p ++ drop (table_start g lengths p) found
    pub long : length ws ≡ length found
    pub planes_are : planes ≡ plane_count g
    pub within : p ≤ planes

  -- before the first plane
  pub laid_first : (ws : List ℕ) (planes : ℕ) → planes ≡ plane_count g → LaidBefore ws ws planes 0
  unfolding tables_up_to table_start base.sum_below
  laid_first ws planes ep = record { holds = refl; long = refl; planes_are = ep; within = omega arith }

  module _ (found ws : List ℕ) (planes p : ℕ) (b : LaidBefore found ws planes p) where
    -- the next plane is laid
    pub laid_next : (ws' : List ℕ) → p < planes
        → ws' ≡ replaced ws (table_start g lengths p) (plane_need g lengths p) (table_of (lengths_of g lengths p)) → length ws' ≡ length ws
        → LaidBefore found ws' planes (p + 1)
    laid_next ws' l e k = record {
      holds = rw (add-one p) (e ∙ ap (λ (x : List ℕ). replaced x (table_start g lengths p) (plane_need g lengths p) (table_of (lengths_of g lengths p))) b.holds ∙ lay_more found p);
      long = k ∙ b.long;
      planes_are = b.planes_are;
      within = omega arith;
    }

    -- all are
    pub laid_all : planes ≤ p → ws ≡ with_tables g lengths found
    unfolding with_tables frm.need_of_all table_start
    laid_all h =
        let e : p ≡ plane_count g = omega (arith, b.within, b.planes_are) in
        b.holds ∙ ap (λ (k : ℕ). tables_up_to g lengths k ++ drop (table_start g lengths k) found) e

    -- so each stands in its stretch
    pub laid_tables : planes ≤ p → need_of_all g lengths ≤ length found → Tables g lengths ws
    laid_tables h room = record {
      each = λ q l. ap (λ (x : List ℕ). part x (table_start g lengths q) (plane_need g lengths q)) b.holds ∙ tables_at p q (drop (table_start g lengths p) found) (omega (arith, l, b.planes_are));
      room = omega (arith, b.long);
    }
