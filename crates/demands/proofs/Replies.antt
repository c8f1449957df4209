-- A reply that says the first row that applies goes by its table (`ByTable`), and what lent memory holds by a reply's number. Assumes nothing.
use mathlib.Core.Path.{◌≡◌, refl, sym, ap, ◌∙◌}
use Prim.Native.Nat.{ℕ, ◌≤◌, ◌<◌}
use mathlib.Core.List.{List}
use native.Mathlib.Omega.{arith}
use borrow.Author.Tests.{le-leb, lt-leb}
use Rattle.scope.specs.Refusals.{number_of, place_of, kind_number, place_number, Row, first_of, left_by}
use Rattle.scope.specs.declared.Place.{Place}
use Rattle.scope.specs.declared.Place.TheVariants.{Slice, Plane, Nothing}
use Rattle.scope.specs.Answers.{Answer, done, refused}
use Rattle.std.specs.Prelude.{Ok, Err}
use Rattle.scope.proofs.Table.{planes_when, exactly_when}
use Rattle.refusals.specs.Rows.{Every}
use Rattle.refusals.proofs.Rows.{every_refused}
use Rattle.magicyuv.specs.declared.Reply.{Reply}
use Rattle.magicyuv.specs.Boundary.{reply_to, Says}
use Rattle.magicyuv.proofs.Once.{says_once}
use Rattle.demands.specs.Demand.{ByTable}

-- a number of document 01's table
abbrev pub Numbered : ℕ → Place → Type 0
Numbered n p = (1 ≤ n) × (n ≤ 15)

-- the reply that says an answer
pub says_reply : (a : Answer) (r : Reply) → Says a r → r ≡ reply_to a
says_reply a r h = says_once a r (reply_to a) h (record { number = refl; kind = refl; place = refl })

-- kind and number of a place are its own
same_place : (p q : Place) → kind_number p ≡ kind_number q → place_number p ≡ place_number q → p ≡ q
same_place Nothing Nothing k n = refl
same_place Nothing (Slice t) k n = absurd (omega (arith, k))
same_place Nothing (Plane t) k n = absurd (omega (arith, k))
same_place (Slice s) Nothing k n = absurd (omega (arith, k))
same_place (Slice s) (Slice t) k n = ap Slice n
same_place (Slice s) (Plane t) k n = absurd (omega (arith, k))
same_place (Plane s) Nothing k n = absurd (omega (arith, k))
same_place (Plane s) (Slice t) k n = absurd (omega (arith, k))
same_place (Plane s) (Plane t) k n = ap Plane n

-- an answer whose number is 0 is a success, since no refusal has that number
number_done : (a : Answer) → Every Numbered a → number_of a ≡ 0 → a ≡ done
unfolding Every
number_done (Ok _) h e = refl
number_done (Err why) h e = absurd (omega (arith, e, h.0))

number_most : (a : Answer) → Every Numbered a → number_of a ≤ 15
unfolding Every
number_most (Ok _) h = omega arith
number_most (Err why) h = h.1

-- an answer with a refusal's number and place is that refusal
named_refused : (a : Answer) (n : ℕ) (p : Place) → 1 ≤ n → number_of a ≡ n → kind_number (place_of a) ≡ kind_number p → place_number (place_of a) ≡ place_number p → a ≡ refused n p
named_refused (Ok _) n p l e k m = absurd (omega (arith, l, e))
named_refused (Err why) n p l e k m = rw (e, same_place why.1 p k m)

module _ (rows : List Row) (r : Reply) (e : r ≡ reply_to (first_of rows)) (h : Every Numbered (first_of rows)) where
  number : r.number ≡ number_of (first_of rows)
  number = ap (λ (x : Reply). x.number) e

  kind : r.kind ≡ kind_number (place_of (first_of rows))
  kind = ap (λ (x : Reply). x.kind) e

  place : r.place ≡ place_number (place_of (first_of rows))
  place = ap (λ (x : Reply). x.place) e

  pub reply_done : r.number ≡ 0 → first_of rows ≡ done
  reply_done z = number_done (first_of rows) h (sym number ∙ z)

  pub by_table : ByTable rows r
  by_table = record {
    success = (λ z. (planes_when rows).0 (reply_done z), λ n. number ∙ ap number_of ((planes_when rows).1 n));
    refused = λ n p l. (
      λ s. (exactly_when rows n p).0 (named_refused (first_of rows) n p l (sym number ∙ s.number) (sym kind ∙ s.kind) (sym place ∙ s.place)),
      λ f. let a = (exactly_when rows n p).1 f in
          record { number = number ∙ ap number_of a; kind = kind ∙ ap (λ (x : Answer). kind_number (place_of x)) a; place = place ∙ ap (λ (x : Answer). place_number (place_of x)) a },
    );
    numbers = λ n p f. every_refused Numbered (first_of rows) n p h ((exactly_when rows n p).1 f);
    most = rw number (number_most (first_of rows) h);
  }

-- ---- what is left, by the number

module _ (last : ℕ) (found cleared good : List ℕ) where
  pub left_done : (a : Answer) → a ≡ done → left_by last a found cleared good ≡ good
  unfolding left_by
  left_done a e = rw e refl

  pub left_found : (a : Answer) → 1 ≤ number_of a → number_of a ≤ last → left_by last a found cleared good ≡ found
  unfolding left_by
  left_found (Ok _) l h = absurd (omega (arith, l))
  left_found (Err why) l h = rw (le-leb why.0 last h)

  pub left_cleared : (a : Answer) → 1 ≤ number_of a → last < number_of a → left_by last a found cleared good ≡ cleared
  unfolding left_by
  left_cleared (Ok _) l h = absurd (omega (arith, l))
  left_cleared (Err why) l h = rw (lt-leb why.0 last h)
