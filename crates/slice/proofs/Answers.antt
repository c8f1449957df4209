-- What a slice answers, by its predictor byte and by where the reading of its residues ended, and the samples that are rebuilt from them
-- (document 01, "Refusal numbers": "each 15 before its 14"). Over any lookup and depth. Assumes nothing.
use Rattle.std.proofs.Common.{◌≡◌, refl, sym, ap, ◌∙◌, ℕ, List, true, false}
use Rattle.std.specs.Prelude.{◌&&◌, leb, Ok, Err, Result}
use Rattle.std.specs.Result.{MatchResult, IsErrAnd}
use Rattle.std.proofs.lemmas.Result.{err_from_is_err_and}
use Rattle.scope.specs.Geometry.{fields}
use Rattle.scope.specs.Words.{Chain, symbols, stuck_at, symbols_of}
use Rattle.scope.specs.Prediction.{samples_of}
use Rattle.scope.specs.Words as wrd
use Rattle.scope.specs.Pieces as pcs
use Rattle.scope.specs.declared.Geometry.{Geometry}
use Rattle.scope.specs.declared.SliceAt.{SliceAt}
use Rattle.scope.specs.declared.Refusal.{Refusal}
use Rattle.scope.specs.Found.{Found}
use Rattle.scope.specs.declared.Place.{Place}
use Rattle.scope.specs.declared.Place.TheVariants.{Slice, Plane}
use Rattle.scope.specs.Answers.{Answer, done, refused, refusal}
use Rattle.scope.specs.Pieces.{readable}
use Rattle.reader.specs.Reading as rdg
use Rattle.reader.specs.Reading.{Reached, reached}
use Rattle.reader.specs.declared.Stuck.{Stuck}
use Rattle.slice.specs.Slice.{residues_by, end_by, ResiduesRead, read_by, samples_by, answered}

-- ---- the function from where a reading ended to an answer

-- where it ended
answered_end : (plane : ℕ) (r : Reached) (at : ℕ) → r ≡ Ok at → done ≡ answered plane r
unfolding answered
answered_end plane r at e = rw e

-- it is what a chain answers
answered_chain : (plane : ℕ) (c : Chain) (at : ℕ) → answered plane (reached c at) ≡ readable plane c
unfolding answered rdg.reached pcs.readable
answered_chain plane (symbols ss) at = refl
answered_chain plane (stuck_at q) at = refl

-- a reading r is handed on as m: where it ended, or a refusal that a closure makes, which is 14 at the plane
module _ {Said : Stuck → Refusal → Type 0} (plane : ℕ) (says : (s : Stuck) (why : Refusal) → Said s why → why ≡ refusal 14 (Plane plane)) where
  handed_refusal : (r : Reached) (m : Result ℕ Refusal) (why : Refusal) → MatchResult r (λ at. m ≡ Ok at) (λ s. IsErrAnd m (Said s)) → m ≡ Err why
      → ◌≡◌ {A = Answer} (Err why) (answered plane r)
  unfolding answered
  handed_refusal (Ok at) m why h e = absurd cc
  handed_refusal (Err s) m why h e =
      let p = err_from_is_err_and m h in
      let d : ◌≡◌ {A = Result ℕ Refusal} (Err why) (Err p.0) = sym e ∙ p.1 in
      let same : why ≡ p.0 = cc in
      ap Err (same ∙ says s p.0 p.2)

  handed_end : (r : Reached) (m : Result ℕ Refusal) (at : ℕ) → MatchResult r (λ at. m ≡ Ok at) (λ s. IsErrAnd m (Said s)) → m ≡ Ok at → r ≡ Ok at
  handed_end (Ok n) m at h e =
      let d : ◌≡◌ {A = Result ℕ Refusal} (Ok n) (Ok at) = sym h ∙ e in
      let same : n ≡ at = cc in
      ap Ok same
  handed_end (Err s) m at h e = let p = err_from_is_err_and m h in absurd cc

-- a chain that did not get stuck has its symbols
ended_symbols : (c : Chain) (at e : ℕ) → Ok e ≡ reached c at → c ≡ symbols (symbols_of c)
unfolding rdg.reached wrd.symbols_of
ended_symbols (symbols ss) at e h = refl
ended_symbols (stuck_at q) at e h = cc

-- ---- a slice

module _ (look : ℕ → Found) (depth : ℕ) (frame : List ℕ) (a : SliceAt) where
  -- 15: below Left, or above Median
  pub no_kind : leb 1 a.predictor && leb a.predictor 3 ≡ false → (n : ℕ) (p : Place) → n ≡ 15 → p ≡ Slice a.number → refused n p ≡ read_by look depth frame a
  unfolding read_by
  no_kind h n p e f = rw (e, f, h) refl

module _ {look : ℕ → Found} {depth : ℕ} {frame : List ℕ} {a : SliceAt} {r : Reached} {out : List ℕ} (kind : leb 1 a.predictor && leb a.predictor 3 ≡ true)
    (read : ResiduesRead look depth frame a r out) where
  -- the answer is that of the reading's end
  read_answer : answered a.plane r ≡ read_by look depth frame a
  unfolding read_by
  read_answer =
      ap (answered a.plane) read.answer
      ∙ answered_chain a.plane (residues_by look depth frame a) (end_by look depth frame a)
      ∙ rw kind

  module _ {Said : Stuck → Refusal → Type 0} (m : Result ℕ Refusal) (h : MatchResult r (λ at. m ≡ Ok at) (λ s. IsErrAnd m (Said s)))
      (says : (s : Stuck) (why : Refusal) → Said s why → why ≡ refusal 14 (Plane a.plane)) where
    -- a reading that is stuck is refused
    pub slice_refused : (why : Refusal) → m ≡ Err why → Err why ≡ read_by look depth frame a
    slice_refused why e = handed_refusal a.plane says r m why h e ∙ read_answer

    -- where it ended, the slice is read
    pub slice_read : (at : ℕ) → m ≡ Ok at → done ≡ read_by look depth frame a
    slice_read at e = answered_end a.plane r at (handed_end a.plane says r m at h e) ∙ read_answer

    -- and the samples are rebuilt from the residues
    pub slice_rebuilt : {f : ℕ} (g : Geometry) {ys : List ℕ} (at : ℕ) → m ≡ Ok at → f ≡ fields g → ys ≡ samples_of depth a.predictor a.width f out
        → ys ≡ samples_by look depth (fields g) frame a
    unfolding samples_by
    slice_rebuilt {f} g at e ef ey =
        let whole : residues_by look depth frame a ≡ symbols (symbols_of (residues_by look depth frame a)) =
        ended_symbols (residues_by look depth frame a) (end_by look depth frame a) at (sym (handed_end a.plane says r m at h e) ∙ read.answer)
        in
        rw ef at ey ∙ ap (samples_of depth a.predictor a.width (fields g)) (read.handed (symbols_of (residues_by look depth frame a)) whole)
