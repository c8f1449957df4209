-- The codes of a frame's planes, from their lengths (document 01, refusals 9 to 11: "Refusals 9 and 10 go plane by plane"). Assumes
-- nothing.
use Rattle.std.specs.Prelude.{cond, List, [], ◌∷◌, ℕ, suc, ◌+◌, ltb, set}
use Rattle.scope.specs.Base.{list_below}
use Rattle.scope.specs.Geometry.{plane_count, lengths_of}
use Rattle.scope.specs.Words.{longest, shortest}
use Rattle.scope.specs.declared.Geometry.{Geometry}
use Rattle.scope.specs.Answers.{Answer, done}
use Rattle.std.specs.Prelude.{Ok, Err}
use Rattle.scope.specs.Pieces.{in_order, length_check}
use Rattle.tables.specs.Tables.{table_start}
use Rattle.tables.specs.declared.Codes.{Codes}

-- a number for each of the first n planes, and 0 for those up to four that are not there
unfoldable pub per_plane : ℕ → (ℕ → ℕ) → List ℕ
per_plane n f = list_below 4 (λ p. cond (ltb p n) (f p) 0)

-- no plane's number
abbrev pub zero4 : List ℕ
zero4 = 0 ∷ 0 ∷ 0 ∷ 0 ∷ []

-- an answer, and no plane's code
unfoldable pub no_codes : Answer → Codes
no_codes a = record {
  answer = a;
  from = zero4;
  to = zero4;
  longest = zero4;
  shortest = zero4;
  need = 0;
}

-- one plane's code more, of longest length m, shortest length s and need n: its table starts where the last one ends
unfoldable pub with_code : Codes → ℕ → ℕ → ℕ → ℕ → Codes
with_code c p m s n = record {
  answer = c.answer;
  from = set c.from p c.need;
  to = set c.to p (c.need + n);
  longest = set c.longest p m;
  shortest = set c.shortest p s;
  need = c.need + n;
}

module _ (g : Geometry) (lengths : List ℕ) where
  -- the codes of the first n planes, none of which is refused
  unfoldable pub codes_up_to : ℕ → Codes
  codes_up_to n = record {
    answer = done;
    from = per_plane n (table_start g lengths);
    to = per_plane n (λ p. table_start g lengths (suc p));
    longest = per_plane n (λ p. longest (lengths_of g lengths p));
    shortest = per_plane n (λ p. shortest (lengths_of g lengths p));
    need = table_start g lengths n;
  }

  -- them all, by what 9 and 10 say
  unfoldable pub codes_by : Answer → Codes
  codes_by (Ok _) = codes_up_to (plane_count g)
  codes_by (Err why) = no_codes (Err why)

  unfoldable pub codes_of : Codes
  codes_of = codes_by (in_order (plane_count g) (length_check g lengths))
