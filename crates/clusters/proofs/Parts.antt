-- The parts of a set in falling order: the step s ↦ bit_and (s - 1) m from a part s of m gives the greatest part below s.
use Prim.Native.Nat.{ℕ, ◌-◌, ◌/◌, ◌%◌, ◌≤◌, ◌<◌}
use mathlib.Core.Path.{◌≡◌, ap}
use native.Mathlib.Decide.{ℕ_discrete}
use native.Mathlib.Omega.{arith}
use lib.Arith.{bin_ind}
use lib.Bits.{bit_and, and_step, and_le_l}
use lib.Count.{ones}
use Rattle.clusters.specs.Sets.{Within, size}
use Rattle.clusters.proofs.Members.{has_and, and_has, same_members, within_of_has}
use Rattle.clusters.proofs.Sets.{odd-within, half-within}
use Rattle.clusters.proofs.Sizes.{size-within}

pub and_assoc : (a b c : ℕ) → bit_and (bit_and a b) c ≡ bit_and a (bit_and b c)
and_assoc a b c =
    same_members (bit_and (bit_and a b) c) (bit_and a (bit_and b c))
    (λ i h.
    let p = has_and (bit_and a b) c i h in
    let q = has_and a b i p.0 in
    and_has a (bit_and b c) i q.0 (and_has b c i q.1 p.1))
    (λ i h.
    let p = has_and a (bit_and b c) i h in
    let q = has_and b c i p.1 in
    and_has (bit_and a b) c i (and_has a b i p.0 q.0) q.1)

pub part_and : (s m : ℕ) → Within (bit_and s m) m
part_and s m = within_of_has (bit_and s m) m (λ i h. (has_and s m i h).1)

pub and_part : (s m : ℕ) → Within (bit_and s m) s
and_part s m = within_of_has (bit_and s m) s (λ i h. (has_and s m i h).0)

pub part_falls : {s : ℕ} (m : ℕ) → 1 ≤ s → bit_and (s - 1) m < s
part_falls {s} m p = omega (arith, and_le_l (s - 1) m)

kept : (a b : ℕ) → Within a b → bit_and a b ≡ a
unfolding Within
kept a b w = w

-- s is itself a part of m: without that the law is false
pub greatest-part-below : {s t : ℕ} (m : ℕ) → Within s m → Within t m → t < s → t ≤ bit_and (s - 1) m
greatest-part-below {s} {t} m w v l =
    bin_ind (λ (s : ℕ). (t m : ℕ) → Within s m → Within t m → t < s → t ≤ bit_and (s - 1) m)
    (λ t m w v l. absurd (omega arith))
    (λ s ih t m w v l. step s t m (ih (t / 2) (m / 2) (half-within m s w) (half-within m t v)) w v l (ℕ_discrete (s % 2) 1)) s t m w v l
  where
    step : (s t m : ℕ) → (t / 2 < s / 2 → t / 2 ≤ bit_and (s / 2 - 1) (m / 2)) → Within s m → Within t m → t < s → Dec (s % 2 ≡ 1)
        → t ≤ bit_and (s - 1) m
    step s t m ih w v l (yes e) =
        let same : (s - 1) / 2 ≡ s / 2 = omega arith in
        omega (arith, and_step (s - 1) m, ap (λ (x : ℕ). bit_and x (m / 2)) same, kept (s / 2) (m / 2) (half-within m s w))
    step s t m ih w v l (no f) =
        let even : s % 2 ≡ 0 = omega (arith, f) in
        let less : (s - 1) / 2 ≡ s / 2 - 1 = omega arith in
        omega (arith, and_step (s - 1) m, ap (λ (x : ℕ). bit_and x (m / 2)) less, ih (omega arith), odd-within m t v)

pub ones_and_le : (a b : ℕ) → ones (bit_and a b) ≤ ones a
unfolding size
ones_and_le a b = size-within (bit_and a b) a (and_part a b)
