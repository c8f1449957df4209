-- A sum that wraps at 16 bits may go on in place of the sample that it stands for: 2^depth divides 2^16, so what is stored of it, its
-- remainder, is the same. Document 01, "All sums are modulo 2^depth". Assumes nothing.
use Rattle.std.proofs.Common.{◌≡◌, ℕ, ◌+◌, ◌%◌, ◌^◌, ◌≤◌, sym, ap, ◌∙◌, add-zero}
use native.Mathlib.Nat.{add-mod-mod}
use Rattle.lists.proofs.Powers.{mod_of_wrapped}

-- w is n added to a sum that stands for a sample, wrapped; v is what is stored of w
pub stored_sum : (depth sum sample n w v : ℕ) → depth ≤ 16 → sum % 2 ^ depth ≡ sample % 2 ^ depth → w ≡ (n + sum) % 2 ^ 16
    → v ≡ (w + 0) % 2 ^ depth → v ≡ (n + sample) % 2 ^ depth
stored_sum depth sum sample n w v h same ew ev =
    ev
    ∙ ap (λ (x : ℕ). x % 2 ^ depth) (add-zero w ∙ ew)
    ∙ mod_of_wrapped (n + sum) depth h
    ∙ sym (add-mod-mod n sum (2 ^ depth))
    ∙ ap (λ (x : ℕ). (n + x) % 2 ^ depth) same
    ∙ add-mod-mod n sample (2 ^ depth)
