-- A set of bits that is filled bit by bit, from the lowest.
use Rattle.std.proofs.Common.{◌≡◌, ℕ, suc, ◌+◌, ◌*◌, ◌%◌, ◌^◌, ◌<◌, Bool, cond, List, [], ◌∷◌, ◌++◌, length, sym, ap, ◌∙◌, mul_assoc, pow-suc, arith}
use lib.Bits.{bit_or, or_shifted_r}
use lib.Lanes.{mask_l}
use Rattle.std.proofs.lemmas.Simd.{mask_l-lt}
use Rattle.std.proofs.lemmas.Nat.{shl_whole}
use Rattle.std.proofs.lemmas.Bool.{cond_both}

pub mask_l-push : (bs : List Bool) (b : Bool) → mask_l (bs ++ b ∷ []) ≡ cond b 1 0 * 2 ^ length bs + mask_l bs
mask_l-push [] b = omega arith
mask_l-push (x ∷ bs) b =
    let power : cond b 1 0 * 2 ^ suc (length bs) ≡ cond b 1 0 * 2 ^ length bs * 2 =
    ap (λ n. cond b 1 0 * n) (pow-suc 2 (length bs)) ∙ sym (mul_assoc (cond b 1 0) (2 ^ length bs) 2) in
    omega (arith, mask_l-push bs b)

-- `bits |= bit << k`, where k bits are filled
pub mask_l_fill : (bs : List Bool) (b : Bool) (k m : ℕ) → length bs ≡ k → k < 64 → m ≡ cond b 1 0 → bit_or (mask_l bs) ((m * 2 ^ k) % 2 ^ 64) ≡ mask_l (bs ++ b ∷ [])
mask_l_fill bs b k m e h is =
    let small : m < 2 ^ 1 = rw is (cond_both b 1 0 (λ n. n < 2) (λ _. omega arith) (λ _. omega arith)) in
    let low : mask_l bs < 2 ^ k = rw e at (mask_l-lt bs) in
    ap (bit_or (mask_l bs)) (shl_whole m 1 k 64 small (omega arith)) ∙ or_shifted_r m k (mask_l bs) low
    ∙ sym (mask_l-push bs b ∙ (cc (is, e)))
