-- The verdict, test by test. Assumes nothing.
use mathlib.Core.Path.{◌≡◌}
use mathlib.Core.Bool.{Bool, true, false, not}
use borrow.Author.Tests.{eq-eqb, ne_eqb, not-true, not-false}
use Rattle.cases.specs.Held as held
use Rattle.cases.specs.Held.{right, wrong, verdict_of}
use Rattle.cases.specs.declared.Told.{Told}
use Rattle.cases.specs.declared.Wrong.TheVariants.{Number, Kind, Place, Sample, Word}

module _ (told stored : Told) (samples words : Bool) where
  pub other_number : (told.number ≡ stored.number → ⊥) → wrong Number ≡ verdict_of told stored samples words
  unfolding held.verdict_of
  other_number h = rw (ne_eqb told.number stored.number h)

  module _ (n : told.number ≡ stored.number) where
    pub other_kind : (told.kind ≡ stored.kind → ⊥) → wrong Kind ≡ verdict_of told stored samples words
    unfolding held.verdict_of
    other_kind h = rw (eq-eqb told.number stored.number n, ne_eqb told.kind stored.kind h)

    module _ (k : told.kind ≡ stored.kind) where
      pub other_place : (told.place ≡ stored.place → ⊥) → wrong Place ≡ verdict_of told stored samples words
      unfolding held.verdict_of
      other_place h = rw (eq-eqb told.number stored.number n, eq-eqb told.kind stored.kind k, ne_eqb told.place stored.place h)

      module _ (p : told.place ≡ stored.place) where
        pub other_sample : not samples ≡ true → wrong Sample ≡ verdict_of told stored samples words
        unfolding held.verdict_of
        other_sample h =
            rw (eq-eqb told.number stored.number n, eq-eqb told.kind stored.kind k, eq-eqb told.place stored.place p, not-true samples h)

        module _ (s : not samples ≡ false) where
          pub other_word : not words ≡ true → wrong Word ≡ verdict_of told stored samples words
          unfolding held.verdict_of
          other_word h =
              rw (eq-eqb told.number stored.number n, eq-eqb told.kind stored.kind k, eq-eqb told.place stored.place p, not-false samples s, not-true words h)

          pub all_right : not words ≡ false → right ≡ verdict_of told stored samples words
          unfolding held.verdict_of
          all_right h =
              rw (eq-eqb told.number stored.number n, eq-eqb told.kind stored.kind k, eq-eqb told.place stored.place p, not-false samples s, not-false words h)

pub ruleset verdicts = (other_number, other_kind, other_place, other_sample, other_word, all_right)
