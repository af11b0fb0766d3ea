-- One step of the zeta transform in place, one block of sets after the other.
use Rattle.std.proofs.Common.{◌≡◌, ℕ, suc, ◌+◌, ◌-◌, ◌*◌, ◌%◌, ◌^◌, ◌<◌, ◌≤◌, Bool, true, false, eqb, List, length, get_or, set, sym, refl, ap, ◌∙◌, subst, ap₂, mul-le-mul_right, add-mul, pow-suc, arith, length-set, get_or-set_other, get_or-set_same, ext_get_or, pow-add, eq-eqb, ne_eqb}
use native.Mathlib.Nat.{mul-mod_left, div-eq_of_lt-le}
use native.Mathlib.Decide.{ℕ_discrete, dec_lt}
use Rattle.clusters.specs.Sets.{has, single}
use Rattle.weights.specs.Subsets.{modulus, added_if, stepped}
use Rattle.weights.proofs.Zeta.{length-stepped, stepped_at}
use Rattle.sums.specs.Work.{HalfAdded, AtMost}

-- ---- half a block

-- the entries behind those from start to a have gained
pub record HalfTo (start half : ℕ) (before now : List ℕ) (a : ℕ) : Type 0 where
  pub from : start ≤ a
  pub to : a ≤ start + half
  pub same : length now ≡ length before
  pub gained : (b : ℕ) → start ≤ b → b < a → get_or now (b + half) 0 ≡ (get_or before (b + half) 0 + get_or before b 0) % modulus
  pub lower : (b : ℕ) → b < start + half → get_or now b 0 ≡ get_or before b 0
  pub upper : (b : ℕ) → a + half ≤ b → get_or now b 0 ≡ get_or before b 0

-- none has
pub half_start : (start half : ℕ) (f : List ℕ) → HalfTo start half f f start
half_start start half f = record {
  from = omega arith;
  to = omega arith;
  same = refl;
  gained = λ b l k. absurd (omega arith);
  lower = λ b l. refl;
  upper = λ b l. refl;
}

module _ {start half : ℕ} {before now : List ℕ} {a : ℕ} (t : HalfTo start half before now a) (less : a < start + half) where
  -- the two entries that are read are as they were
  pub half-read : (get_or now (a + half) 0 ≡ get_or before (a + half) 0) × (get_or now a 0 ≡ get_or before a 0)
  half-read = (t.upper (a + half) (omega arith), t.lower a less)

  -- the next gains
  pub half_next :
      {r : ℕ} → a + half < length before → r ≡ (get_or now (a + half) 0 + get_or now a 0) % modulus → HalfTo start half before (set now (a + half) r) (a + 1)
  half_next {r} fits e = record {
    from = omega (arith, t.from);
    to = omega arith;
    same = length-set now (a + half) r ∙ t.same;
    gained = λ b l k. go b l k (ℕ_discrete b a);
    lower = λ b l. get_or-set_other now (a + half) b r 0 (λ d. omega (arith, t.from)) ∙ t.lower b l;
    upper = λ b l. get_or-set_other now (a + half) b r 0 (λ d. omega arith) ∙ t.upper b (omega arith);
  }
    where
      go :
          (b : ℕ) → start ≤ b → b < a + 1 → Dec (b ≡ a)
          → get_or (set now (a + half) r) (b + half) 0 ≡ (get_or before (b + half) 0 + get_or before b 0) % modulus
      go b l k (yes d) =
          ap (λ (i : ℕ). get_or (set now (a + half) r) (i + half) 0) d ∙ get_or-set_same now (a + half) r 0 (omega (arith, t.same))
          ∙ e
          ∙ ap₂ (λ (x y : ℕ). (x + y) % modulus) half-read.0 half-read.1
          ∙ ap (λ (i : ℕ). (get_or before (i + half) 0 + get_or before i 0) % modulus) (sym d)
      go b l k (no d) = get_or-set_other now (a + half) (b + half) r 0 (λ p. omega (arith, d)) ∙ t.gained b l (omega (arith, d))

-- all have
pub half_end :
    {start half : ℕ} {before now : List ℕ} {a : ℕ} → HalfTo start half before now a → start + half ≤ a → HalfAdded start half before now
half_end {start} {half} {before} {now} {a} t past = record {
  same = t.same;
  gained = λ b l k. t.gained b l (omega arith);
  lower = t.lower;
  upper = λ b l. t.upper b (omega (arith, t.to));
}

-- ---- the blocks of a step

module _ (i k : ℕ) where
  half_on : (k + 1) * 2 ^ i ≡ k * 2 ^ i + 2 ^ i
  half_on = add-mul k 1 (2 ^ i) ∙ ap (λ (x : ℕ). k * 2 ^ i + x) (omega arith)

  block_on : (k + 2) * 2 ^ i ≡ k * 2 ^ i + 2 ^ i + 2 ^ i
  block_on = add-mul k 2 (2 ^ i) ∙ omega arith

  -- sets of the lower half of a block do not have the species
  lower_lacks : (b : ℕ) → k % 2 ≡ 0 → k * 2 ^ i ≤ b → b < k * 2 ^ i + 2 ^ i → has b i ≡ false
  unfolding has
  lower_lacks b even low high =
      ap (λ (q : ℕ). eqb (q % 2) 1) (div-eq_of_lt-le {k = k} (2 ^ i) low (omega (arith, half_on))) ∙ ne_eqb (k % 2) 1 (λ e. omega arith)

  -- those of the upper half have it
  upper-has : (b : ℕ) → k % 2 ≡ 0 → k * 2 ^ i + 2 ^ i ≤ b → b < k * 2 ^ i + 2 ^ i + 2 ^ i → has b i ≡ true
  unfolding has
  upper-has b even low high =
      ap (λ (q : ℕ). eqb (q % 2) 1)
      (div-eq_of_lt-le {k = k + 1} (2 ^ i) (omega (arith, half_on)) (subst (λ (x : ℕ). b < x * 2 ^ i) next (omega (arith, block_on))))
      ∙ eq-eqb ((k + 1) % 2) 1 (omega arith)
    where
      next : k + 2 ≡ k + 1 + 1
      next = omega arith

  -- a block that begins before the last entry ends there at the latest
  block-fits : {n : ℕ} → i < n → k % 2 ≡ 0 → k * 2 ^ i < 2 ^ n → k * 2 ^ i + 2 ^ i + 2 ^ i ≤ 2 ^ n
  block-fits {n} less even low = omega (arith, block_on, halves, mul-le-mul_right (2 ^ i) (go (dec_lt k (2 ^ (n - i)))))
    where
      halves : 2 ^ (n - i) * 2 ^ i ≡ 2 ^ n
      halves = sym (pow-add 2 (n - i) i) ∙ ap (λ (x : ℕ). 2 ^ x) (omega arith)

      even_too : 2 ^ (n - i) % 2 ≡ 0
      even_too = ap (λ (x : ℕ). 2 ^ x % 2) up ∙ ap (λ (x : ℕ). x % 2) (pow-suc 2 (n - i - 1)) ∙ mul-mod_left (2 ^ (n - i - 1)) 2
        where
          up : n - i ≡ suc (n - i - 1)
          up = omega arith

      go : Dec (k < 2 ^ (n - i)) → k + 2 ≤ 2 ^ (n - i)
      go (yes l) = omega (arith, even_too)
      go (no f) = absurd (omega (arith, halves, mul-le-mul_right (2 ^ i) (high f)))
        where
          high : (k < 2 ^ (n - i) → ⊥) → 2 ^ (n - i) ≤ k
          high f = omega (arith, f)

-- ---- the step, block by block

-- the entries before a block are stepped, the others are as they were
pub record SteppedTo (i : ℕ) (before now : List ℕ) (start : ℕ) : Type 0 where
  pub halves : ℕ
  pub even : halves % 2 ≡ 0
  pub there : start ≡ halves * 2 ^ i
  pub same : length now ≡ length before
  pub done : (b : ℕ) → b < start → get_or now b 0 ≡ get_or (stepped i before) b 0
  pub left : (b : ℕ) → start ≤ b → get_or now b 0 ≡ get_or before b 0

-- none is
pub step_start : (i : ℕ) (f : List ℕ) → SteppedTo i f f 0
step_start i f = record {
  halves = 0;
  even = refl;
  there = omega arith;
  same = refl;
  done = λ b l. absurd (omega arith);
  left = λ b l. refl;
}

module _ {i : ℕ} {before now : List ℕ} {start : ℕ} (t : SteppedTo i before now start) where
  -- the next block is there
  pub step_fits : {n half : ℕ} → i < n → length before ≡ 2 ^ n → half ≡ 2 ^ i → start < length before → start + half + half ≤ length before
  step_fits less long e low = omega (arith, t.there, block-fits i t.halves less t.even (omega (arith, t.there)))

  -- what the step makes of an entry of its upper half
  upper-entry :
      {half : ℕ} → half ≡ 2 ^ i → start + half + half ≤ length before → (a : ℕ) → start ≤ a → a < start + half
      → get_or (stepped i before) (a + half) 0 ≡ (get_or before (a + half) 0 + get_or before a 0) % modulus
  unfolding single
  upper-entry {half} e fits a low high =
      let without : a + half - 2 ^ i ≡ a = omega arith in
      stepped_at i before (a + half) (omega arith)
      ∙ ap (λ (c : Bool). added_if c (get_or before (a + half - 2 ^ i) 0) (get_or before (a + half) 0))
      (upper-has i t.halves (a + half) t.even (omega (arith, t.there)) (omega (arith, t.there)))
      ∙ ap (λ (x : ℕ). (get_or before (a + half) 0 + get_or before x 0) % modulus) without

  -- its entries gain no more than the step gives
  pub step_small :
      {half : ℕ} → half ≡ 2 ^ i → start + half + half ≤ length before → AtMost 4096 (stepped i before) → AtMost 65535 before
      → (a : ℕ) → start ≤ a → a < start + half → get_or now (a + half) 0 + get_or now a 0 ≤ 65535
  step_small {half} e fits small known a low high =
      omega (
        arith,
        t.left (a + half) (omega arith),
        t.left a low,
        upper-entry e fits a low high,
        small (a + half) (omega (arith, length-stepped i before)),
        known (a + half) (omega arith),
        known a (omega arith),
      )

  -- the next block is done
  pub step_next :
      {half : ℕ} {after : List ℕ} → half ≡ 2 ^ i → start + half + half ≤ length before → HalfAdded start half now after
      → SteppedTo i before after (start + 2 * half)
  step_next {half} {after} e fits h = record {
    halves = t.halves + 2;
    even = omega (arith, t.even);
    there = omega (arith, t.there, block_on i t.halves);
    same = h.same ∙ t.same;
    done = λ b l. go b l (dec_lt b start) (dec_lt b (start + half));
    left = λ b l. h.upper b (omega arith) ∙ t.left b (omega arith);
  }
    where
      go : (b : ℕ) → b < start + 2 * half → Dec (b < start) → Dec (b < start + half) → get_or after b 0 ≡ get_or (stepped i before) b 0
      go b l (yes low) d = h.lower b (omega arith) ∙ t.done b low
      go b l (no f) (yes low) =
          h.lower b low ∙ t.left b (omega (arith, f))
          ∙ sym (stepped_at i before b (omega arith)
          ∙ ap (λ (c : Bool). added_if c (get_or before (b - single i) 0) (get_or before b 0))
          (lower_lacks i t.halves b t.even (omega (arith, f, t.there)) (omega (arith, t.there))))
      go b l (no f) (no d) =
          let back : b ≡ b - half + half = omega (arith, d) in
          subst (λ (x : ℕ). get_or after x 0 ≡ get_or (stepped i before) x 0) (sym back)
          (h.gained (b - half) (omega (arith, d)) (omega arith)
          ∙ ap₂ (λ (x y : ℕ). (x + y) % modulus) (t.left (b - half + half) (omega (arith, d))) (t.left (b - half) (omega (arith, d)))
          ∙ sym (upper-entry e fits (b - half) (omega (arith, d)) (omega arith)))

-- all blocks are done
pub step_end : {i : ℕ} {before now : List ℕ} {start : ℕ} → SteppedTo i before now start → length before ≤ start → now ≡ stepped i before
step_end {i} {before} {now} {start} t past =
    ext_get_or 0 now (stepped i before) (t.same ∙ sym (length-stepped i before)) (λ b l. t.done b (omega (arith, t.same)))
