-- The form of a record, place by place: each cluster below the next, zeros behind them.
use Prim.Native.Nat.{ℕ, zero, suc, ◌+◌, ◌-◌, ◌≤◌, ◌<◌}
use mathlib.Core.Path.{◌≡◌, sym, ap, ◌∙◌}
use mathlib.Core.List.{List, [], ◌∷◌}
use native.Mathlib.Omega.{arith}
use lib.ListN.{length, get_or, take, drop, replicate, length-drop, length-replicate, get_or-replicate}
use lib.Seq.{get_or-drop, ext_get_or}
use Rattle.trees.specs.Lists.{Rising, Below}
use Rattle.trees.proofs.Places.{listed-length, listed-place}

-- ---- rising

pub rising_of_steps : (l : List ℕ) → ((k : ℕ) → suc k < length l → get_or l k 0 < get_or l (suc k) 0) → Rising l
unfolding Rising Below
rising_of_steps [] f = tt
rising_of_steps (x ∷ []) f = (tt, tt)
rising_of_steps (x ∷ y ∷ l) f = (f 0 (omega arith), rising_of_steps (y ∷ l) (λ k h. f (suc k) (omega arith)))

pub steps_of_rising : (l : List ℕ) → Rising l → (k : ℕ) → suc k < length l → get_or l k 0 < get_or l (suc k) 0
unfolding Rising Below
steps_of_rising [] h k b = absurd (omega arith)
steps_of_rising (x ∷ []) h k b = absurd (omega arith)
steps_of_rising (x ∷ y ∷ l) h zero b = h.0
steps_of_rising (x ∷ y ∷ l) h (suc k) b = steps_of_rising (y ∷ l) h.1 k (omega arith)

module _ {size : ℕ} (r : List ℕ) (m : ℕ) (long : length r ≡ size) (few : m ≤ size - 1) where
  pub rising_of_places : ((i : ℕ) → 1 ≤ i → i < m → get_or r i 0 < get_or r (i + 1) 0) → Rising (take m (drop 1 r))
  rising_of_places f = rising_of_steps (take m (drop 1 r)) step
    where
      step : (k : ℕ) → suc k < length (take m (drop 1 r)) → get_or (take m (drop 1 r)) k 0 < get_or (take m (drop 1 r)) (suc k) 0
      step k h =
          let b : suc k < m = omega (arith, listed-length r m long few) in
          let low = listed-place r m long few k (omega arith) in
          let high = listed-place r m long few (suc k) b in
          let same : get_or r (suc k + 1) 0 ≡ get_or r (k + 1 + 1) 0 = ap (λ (n : ℕ). get_or r n 0) (omega arith) in
          let less = f (k + 1) (omega arith) (omega arith) in
          omega arith

  pub places_of_rising : Rising (take m (drop 1 r)) → (i : ℕ) → 1 ≤ i → i < m → get_or r i 0 < get_or r (i + 1) 0
  places_of_rising h i one last =
      let low = listed-place r m long few (i - 1) (omega arith) in
      let high = listed-place r m long few (suc (i - 1)) (omega arith) in
      let here : get_or r (i - 1 + 1) 0 ≡ get_or r i 0 = ap (λ (n : ℕ). get_or r n 0) (omega arith) in
      let next : get_or r (suc (i - 1) + 1) 0 ≡ get_or r (i + 1) 0 = ap (λ (n : ℕ). get_or r n 0) (omega arith) in
      let less = steps_of_rising (take m (drop 1 r)) h (i - 1) (omega (arith, listed-length r m long few)) in
      omega arith

  -- ---- zeros

  behind-length : length (drop (1 + m) r) ≡ size - 1 - m
  behind-length = simp length-drop (omega arith)

  pub zeros_of_places : ((i : ℕ) → m < i → i < size → get_or r i 0 ≡ 0) → drop (1 + m) r ≡ replicate (size - 1 - m) 0
  zeros_of_places f = ext_get_or 0 (drop (1 + m) r) (replicate (size - 1 - m) 0) (behind-length ∙ sym (length-replicate (size - 1 - m) 0)) each
    where
      each : (i : ℕ) → i < length (drop (1 + m) r) → get_or (drop (1 + m) r) i 0 ≡ get_or (replicate (size - 1 - m) 0) i 0
      each i h =
          let b : i < size - 1 - m = omega (arith, behind-length) in
          get_or-drop (1 + m) r i 0 ∙ f (1 + m + i) (omega arith) (omega arith) ∙ sym (get_or-replicate (size - 1 - m) i 0 0 b)

  pub places_of_zeros : drop (1 + m) r ≡ replicate (size - 1 - m) 0 → (i : ℕ) → m < i → i < size → get_or r i 0 ≡ 0
  places_of_zeros e i past end =
      let k : 1 + m + (i - (1 + m)) ≡ i = omega arith in
      ap (λ (n : ℕ). get_or r n 0) (sym k) ∙ sym (get_or-drop (1 + m) r (i - (1 + m)) 0) ∙ ap (λ (l : List ℕ). get_or l (i - (1 + m)) 0) e
      ∙ get_or-replicate (size - 1 - m) (i - (1 + m)) 0 0 (omega arith)
