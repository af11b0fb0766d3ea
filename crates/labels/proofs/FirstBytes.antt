-- The first byte of what is left of a text: which one it is, tests that look at it alone, and texts that agree in their first bytes.
use Prim.Native.Nat.{ℕ, ◌≤◌, ◌<◌}
use native.Mathlib.Decide.{dec_lt}
use native.Mathlib.Omega.{arith}
use mathlib.Core.Path.{◌≡◌, refl, sym, ap, ◌∙◌}
use mathlib.Core.Bool.{Bool, true, false, true≢false}
use mathlib.Core.List.{List, [], ◌∷◌}
use lib.ListN.{length, get_or, take, drop, drop_of_length-le}
use lib.Seq.{take-take, drop-cons}
use lib.Dec.{eqb}
use Rattle.labels.specs.Bytes.{is_label, next_is, next_bare, next_label}

module _ (b : ℕ) (s : List ℕ) (i : ℕ) where
  -- the byte at a place stands first from there on
  pub next_here : i < length s → next_is b (drop i s) ≡ eqb (get_or s i 0) b
  unfolding next_is
  next_here h = rw (drop-cons s i 0)

  -- no byte stands at the end
  pub next_end_lem : length s ≤ i → next_is b (drop i s) ≡ false
  unfolding next_is
  next_end_lem h = rw (drop_of_length-le s h)

  -- where a byte stands, the text has not ended
  pub next_within : next_is b (drop i s) ≡ true → i < length s
  next_within e = by (dec_lt i (length s))
    where
      by : Dec (i < length s) → i < length s
      by (yes h) = h
      by (no n) = absurd (true≢false (sym e ∙ next_end_lem (omega arith)))

module _ (s : List ℕ) (i : ℕ) where
  -- a label is known by the byte that stands there
  pub label_here : i < length s → next_label (drop i s) ≡ is_label (get_or s i 0)
  unfolding next_label
  label_here h = rw (drop-cons s i 0)

  -- and none begins at the end
  pub label_end : length s ≤ i → next_label (drop i s) ≡ false
  unfolding next_label
  label_end h = rw (drop_of_length-le s h)

-- a test that looks at the first byte alone
abbrev pub FirstByte : (List ℕ → Bool) → Type 0
FirstByte test = (s s' : List ℕ) → take 1 s ≡ take 1 s' → test s ≡ test s'

-- what is told of the first byte, and of no byte, looks at it alone
by_first_byte : (test : List ℕ → Bool) → ((b : ℕ) (s s' : List ℕ) → test (b ∷ s) ≡ test (b ∷ s')) → FirstByte test
by_first_byte test same [] [] h = refl
by_first_byte test same [] (c ∷ s') h = absurd (let z : ◌≡◌ {A = ℕ} 0 1 = cc in omega arith)
by_first_byte test same (c ∷ s) [] h = absurd (let z : ◌≡◌ {A = ℕ} 0 1 = cc in omega arith)
by_first_byte test same (c ∷ s) (c' ∷ s') h = let e : c ≡ c' = cc in rw e (same c' s s')

pub next_is_first : (b : ℕ) → FirstByte (next_is b)
unfolding next_is
next_is_first b = by_first_byte (next_is b) (λ c s s'. refl)

pub next_bare_first : FirstByte next_bare
unfolding next_bare
next_bare_first = by_first_byte next_bare (λ c s s'. refl)

pub next_label_first : FirstByte next_label
unfolding next_label
next_label_first = by_first_byte next_label (λ c s s'. refl)

-- texts that agree in n bytes agree in fewer
pub agree_less : (m n : ℕ) (s s' : List ℕ) → m ≤ n → take n s ≡ take n s' → take m s ≡ take m s'
agree_less m n s s' l h = sym (take-take m n s l) ∙ (ap (take m) h ∙ take-take m n s' l)
