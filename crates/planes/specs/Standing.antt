-- Document 01, "Planes lie one after another with no gaps": how planes stand in the plane buffer while a frame is decoded. What
-- private functions promise each other; nothing of it is needed to read the product's own statements. Assumes nothing.
use Rattle.std.specs.Prelude.{◌≡◌, cond, List, ℕ, ◌+◌, ◌<◌, length}
use Rattle.scope.specs.Geometry.{correlated, plane_count, plane_samples, all_samples, plane_start}
use Rattle.scope.specs.Prediction.{plus}
use Rattle.scope.specs.declared.Geometry.{Geometry}
use Rattle.lists.specs.Parts.{part, replaced}

-- each of the wire's planes stands in its stretch of the buffer
pub record Planes (g : Geometry) (wire : ℕ → List ℕ) (buffer : List ℕ) : Type 0 where
  pub each : (p : ℕ) → p < plane_count g → part buffer (plane_start g p) (plane_samples g p) ≡ wire p
  pub whole : length buffer ≡ all_samples g

-- the n samples from `at` on, with the first n added to them
unfoldable pub with_green : ℕ → ℕ → ℕ → List ℕ → List ℕ
with_green depth at n buffer = replaced buffer at n (plus depth (part buffer at n) (part buffer 0 n))

-- B' and R' with G added, where the family is stored so: G is the buffer's first plane, B' its second, R' its third
unfoldable pub coloured : Geometry → List ℕ → List ℕ
coloured g buffer =
    let n : ℕ = plane_samples g 0 in
    let both : List ℕ = with_green g.depth (n + n) n (with_green g.depth n n buffer) in
    cond (correlated g.family) both buffer
