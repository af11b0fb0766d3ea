-- A name written byte by byte, in each of its two forms, and counted.
use Prim.Native.Nat.{ℕ, suc, ◌+◌, ◌≤◌, ◌<◌}
use mathlib.Core.Path.{◌≡◌, refl, ap, ◌∙◌}
use mathlib.Core.Bool.{Bool, true, false}
use mathlib.Core.List.{List, [], ◌∷◌}
use native.Mathlib.Numerals.{add-one}
use native.Mathlib.Omega.{arith}
use lib.Dec.{eqb}
use Rattle.std.specs.Prelude.{◌==◌, cond, count_by}
use Rattle.std.proofs.lemmas.List.Sums.{sum_by-cons}
use lib.ListN.{length, get_or, drop, length-append, length-map, drop_of_length-le}
use lib.Seq.{drop-cons}
use borrow.Author.Tests.{eq-eqb, ne_eqb}
use Rattle.labels.specs.Labels.{twice_by, doubled}
use Rattle.labels.specs.Writing.{may_be_bare, underscored, label_of}
use Rattle.labels.proofs.Written.{label-bare, label-quoted}

-- ---- the length of each form

pub bare-length : (name : List ℕ) → may_be_bare name ≡ true → length (label_of name) ≡ length name
bare-length name e = ap length (label-bare name e) ∙ length-map name underscored

pub quoted-length : (name : List ℕ) → may_be_bare name ≡ false → length (label_of name) ≡ length (doubled name) + 2
quoted-length name e = let l = ap length (label-quoted name e) in let a = length-append (doubled name) (39 ∷ []) in omega arith

-- as the code counts the bytes
pub doubled_count : (name : List ℕ) → length name + count_by (λ b. b == 39) name ≡ length (doubled name)
unfolding doubled
doubled_count [] = refl
doubled_count (b ∷ name) = rw (sum_by-cons (λ (b : ℕ). cond (b == 39) 1 0) b name) (go (eqb b 39) (doubled_count name))
  where
    go : (quote : Bool) → length name + count_by (λ b. b == 39) name ≡ length (doubled name)
        → suc (length name) + (cond quote 1 0 + count_by (λ b. b == 39) name) ≡ length (twice_by quote b (doubled name))
    go true h = omega arith
    go false h = omega arith

-- ---- a byte, and what is left behind it

module _ (name : List ℕ) (i : ℕ) where
  module _ (inside : i < length name) where
    here_then : drop i name ≡ get_or name i 0 ∷ drop (i + 1) name
    here_then = rw (add-one, drop-cons name i 0)

    pub quote_on : get_or name i 0 ≡ 39 → doubled (drop i name) ≡ get_or name i 0 ∷ get_or name i 0 ∷ doubled (drop (i + 1) name)
    unfolding doubled
    quote_on e = rw (here_then, eq-eqb (get_or name i 0) 39 e)

    pub plain_on : (get_or name i 0 ≡ 39 → ⊥) → doubled (drop i name) ≡ get_or name i 0 ∷ doubled (drop (i + 1) name)
    unfolding doubled
    plain_on n = rw (here_then, ne_eqb (get_or name i 0) 39 n)

  -- ---- at the name's end nothing is left

  pub doubled_end : length name ≤ i → doubled (drop i name) ≡ []
  unfolding doubled
  doubled_end h = rw (drop_of_length-le name h)
