-- The exported frame entries: numbers out of range are refusal 1, and the others get the entry's own answer.
use mathlib.Core.Path.{◌≡◌, refl}
use Prim.Native.Nat.{ℕ, ◌<◌}
use mathlib.Core.Bool.{Bool, true, false}
use mathlib.Core.List.{List}
use native.Mathlib.Omega.{arith}
use lib.Dec.{ltb}
use lib.ListN.{length}
use Rattle.scope.specs.Refusals.{place_of, place_number, refuse_if, ◌and_then◌, left_by}
use Rattle.scope.specs.Pieces as pcs
use Rattle.scope.specs.Frame.{answer_of, planes_after, workspace_after, Decoded}
use Rattle.scope.specs.declared.Geometry.{Geometry}
use Rattle.scope.specs.declared.Place.{Place}
use Rattle.scope.specs.declared.Place.TheVariants.{Nothing, Plane}
use Rattle.scope.specs.declared.Refusal.{Refusal}
use Rattle.scope.specs.Answers.{Answer, refusal, refused}
use Rattle.std.specs.Prelude.{Result, Ok, Err}
use Rattle.scope.proofs.Table.{read_in_pieces}
use Rattle.refusals.proofs.Places.{place_small}
use Rattle.geometry.proofs.Places.{slice_count_most}
use Rattle.incoming.proofs.Refused.{lent_sound}
use Rattle.scope.specs.Words.{too_long, overfull, need, Chain, symbols, stuck_at, chain}
use Rattle.scope.specs.Alone as aln
use Rattle.scope.specs.Alone.{build_answer, read_answer, BuiltAlone, ReadAlone}
use Rattle.scope.specs.Pieces.{readable}
use Rattle.scope.specs.declared.Entry.{Entry}
use Rattle.magicyuv.specs.declared.numbers.Numbers.{Numbers}
use Rattle.magicyuv.specs.Boundary.{numbers_fit, geometry_of, geometry_said, host_answer, Says, Hosted}
use Rattle.magicyuv.specs.declared.Reply.{Reply}
use Rattle.magicyuv.proofs.Said.{said_off, said_on}

-- ---- a frame

module _ (which : Entry) (frame : List ℕ) (n : Numbers) (lengths planes workspace : List ℕ) where
  answer_off : numbers_fit n ≡ false → host_answer which frame n lengths (length planes) (length workspace) ≡ refused 1 Nothing
  unfolding host_answer
  answer_off e = rw e refl

  answer_on : numbers_fit n ≡ true
      → host_answer which frame n lengths (length planes) (length workspace) ≡ answer_of which frame (geometry_of n) lengths (length planes) (length workspace)
  unfolding host_answer
  answer_on e = rw e refl

  -- what the numbers say
  module _ (said : Result Geometry Refusal) (is : said ≡ geometry_said n) where
    -- no geometry: it is refusal 1
    pub hosted_off : (why : Refusal) → said ≡ Err why → (r : Reply) → Says (Err why) r → Hosted which frame n lengths planes workspace r planes workspace
    unfolding left_by
    hosted_off why e r s =
        let p : (numbers_fit n ≡ false) × (refusal 1 Nothing ≡ why) = said_off n said is why e in
        let k : Says (refused 1 Nothing) r = rw (← p.1) at s in
        record { answer = rw (answer_off p.0) k; planes = rw (answer_off p.0) refl; workspace = rw (answer_off p.0) refl }

    -- a geometry: the entry's own answer
    pub hosted_on : (g : Geometry) → said ≡ Ok g → (a : Answer) (planes₁ workspace₁ : List ℕ) → Decoded which frame g lengths planes workspace a planes₁ workspace₁
        → (r : Reply) → Says a r → Hosted which frame n lengths planes workspace r planes₁ workspace₁
    unfolding planes_after workspace_after
    hosted_on g e a planes₁ workspace₁ d r s =
        let p : (numbers_fit n ≡ true) × (g ≡ geometry_of n) = said_on n said is g e in
        let k : Decoded which frame (geometry_of n) lengths planes workspace a planes₁ workspace₁ = rw p.1 at d in
        let on : host_answer which frame n lengths (length planes) (length workspace) ≡ answer_of which frame (geometry_of n) lengths (length planes) (length workspace) = answer_on p.0 in
        record { answer = rw (on, ← k.answer) s; planes = rw on k.planes; workspace = rw on k.workspace }

-- ---- places fit the reply

placed_small : (a : Answer) → ((n : ℕ) (p : Place) → a ≡ refused n p → place_number p < 65536) → place_number (place_of a) < 65536
placed_small (Ok _) h = omega arith
placed_small (Err why) h = h why.0 why.1 refl

-- of a frame entry's answer
pub entry_small : (which : Entry) (frame : List ℕ) (g : Geometry) (lengths planes workspace : List ℕ) (a : Answer) (planes₁ workspace₁ : List ℕ) → Decoded which frame g lengths planes workspace a planes₁ workspace₁ → place_number (place_of a) < 65536
entry_small which frame g lengths planes workspace a planes₁ workspace₁ d =
    placed_small a (λ n p e. place_small which frame g lengths (length planes) (length workspace) (λ k. slice_count_most g (lent_sound which g (length lengths) (length planes) k)) a n p d.answer e)

-- of an answer that is a check and more
check_small : (t : Bool) (n : ℕ) (p : Place) (b : Answer) → place_number p < 65536 → place_number (place_of b) < 65536 → place_number (place_of (refuse_if t n p and_then b)) < 65536
check_small true n p b h k = h
check_small false n p b h k = k

then_small : (a b : Answer) → place_number (place_of a) < 65536 → place_number (place_of b) < 65536 → place_number (place_of (a and_then b)) < 65536
then_small (Ok _) b h k = k
then_small (Err why) b h k = h

one_small : (t : Bool) (n : ℕ) (p : Place) → place_number p < 65536 → place_number (place_of (refuse_if t n p)) < 65536
one_small true n p h = h
one_small false n p h = omega arith

alone_small : (ls : List ℕ) (w : ℕ) → place_number (place_of (build_answer ls w)) < 65536
unfolding aln.build_answer
alone_small ls w =
    check_small (ltb 16384 (length ls)) 4 Nothing _ (omega arith)
    (check_small (too_long ls) 9 (Plane 0) _ (omega arith)
    (check_small (overfull ls) 10 (Plane 0) _ (omega arith)
    (one_small (ltb w (need ls)) 11 Nothing (omega arith))))

chain_small : (c : Chain) → place_number (place_of (readable 0 c)) < 65536
unfolding pcs.readable
chain_small (symbols ss) = omega arith
chain_small (stuck_at at) = omega arith

read_small : (ls payload : List ℕ) (n w : ℕ) → place_number (place_of (read_answer ls payload n w)) < 65536
read_small ls payload n w =
    rw (read_in_pieces ls payload n w)
    (check_small (ltb 268435456 n) 4 Nothing _ (omega arith)
    (then_small (build_answer ls w) (readable 0 (chain ls payload 0 n)) (alone_small ls w) (chain_small (chain ls payload 0 n))))

-- of a table's and a reading's by itself
pub built_small : (ls ws ws₁ : List ℕ) (a : Answer) → BuiltAlone ls ws a ws₁ → place_number (place_of a) < 65536
built_small ls ws ws₁ a b = rw b.answer (alone_small ls (length ws))

pub reading_small : (ls payload ws ss ws₁ ss₁ : List ℕ) (a : Answer) → ReadAlone ls payload ws ss a ws₁ ss₁ → place_number (place_of a) < 65536
reading_small ls payload ws ss ws₁ ss₁ a b = rw b.answer (read_small ls payload (length ss) (length ws))
