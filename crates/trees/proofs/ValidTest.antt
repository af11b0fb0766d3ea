-- The tests of a record decide what they test: `valid_for` says whether `ValidFor` holds, and `binary` whether `BinaryOn` does.
use Prim.Native.Nat.{ℕ, zero, suc, ◌+◌, ◌-◌, ◌*◌, ◌/◌, ◌%◌, ◌^◌, ◌≤◌, ◌<◌}
use mathlib.Core.Path.{◌≡◌, refl, sym, ap, ap₂, ◌∙◌, subst}
use mathlib.Core.Logic.{◌⊎◌, inl, inr}
use mathlib.Core.Bool.{Bool, true, false, not, ◌&&◌, ◌||◌, true≢false, false≢true}
use mathlib.Core.List.Memᴰ
use mathlib.Core.List.Memᴰ.{head as here}
use mathlib.Core.List.Memᴰ.{tail as there}
use mathlib.Core.List.{List, [], ◌∷◌}
use native.Mathlib.Decide.{ℕ_discrete}
use native.Mathlib.Omega.{arith}
use lib.ListN.{length, drop, replicate, length-drop}
use lib.Dec.{eqb, leb, ltb}
use borrow.Author.Tests.{eqb-true, eq-eqb, leb-true, le-leb, ltb-true, lt-ltb}
use Rattle.clusters.specs.Sets.{Has, Within, Apart, has, within, apart, single, size}
use Rattle.clusters.proofs.Members.{has-below}
use Rattle.clusters.proofs.Sets.{within-true, true-within, apart-true, true-apart}
use Rattle.trees.specs.Lists.{Among, Below, Rising, some}
use Rattle.trees.specs.Records.{count, listed, Nested, ValidFor, BinaryOn}
use Rattle.trees.specs.Valid.{every, among, below_first, rising, singles_from, nested, valid_for, binary}
use Rattle.trees.specs.Decides.{Decides}
use Rattle.trees.proofs.Booleans.{both, or_left, or_right}

-- ---- tests that tell whether a statement holds

-- the test is true exactly when P holds
pub record Tells (test : Bool) (P : Type 0) : Type 0 where
  pub holds : test ≡ true → P
  pub told : P → test ≡ true

-- where the test is false, P does not hold
pub denied : {test : Bool} {P : Type 0} → Tells test P → test ≡ false → P → ⊥
denied d e p = true≢false (sym (d.told p) ∙ e)

-- what tells a statement tells another that holds exactly when it does
pub tells_also : {test : Bool} {P Q : Type 0} → (P → Q) → (Q → P) → Tells test P → Tells test Q
tells_also f g d = record { holds = λ e. f (d.holds e); told = λ q. d.told (g q) }

-- two tests together tell both statements
pub tells_and : {a b : Bool} {P Q : Type 0} → Tells a P → Tells b Q → Tells (a && b) (P × Q)
tells_and {a} {b} {P} {Q} d e = record { holds = λ h. let k = both a b h in (d.holds k.0, e.holds k.1); told = λ h. joined a b (d.told h.0) (e.told h.1) }
  where
    joined : (a b : Bool) → a ≡ true → b ≡ true → (a && b) ≡ true
    joined true b h k = k
    joined false b h k = h

-- either of two tests tells either statement
pub tells_or : {a b : Bool} {P Q : Type 0} → Tells a P → Tells b Q → Tells (a || b) (P ⊎ Q)
tells_or {a} {b} {P} {Q} d e = record { holds = λ h. one a b h d.holds e.holds; told = λ h. told h }
  where
    one : (a b : Bool) → (a || b) ≡ true → (a ≡ true → P) → (b ≡ true → Q) → P ⊎ Q
    one true b h p q = inl (p refl)
    one false b h p q = inr (q h)

    told : P ⊎ Q → (a || b) ≡ true
    told (inl p) = or_left a b (d.told p)
    told (inr q) = or_right a b (e.told q)

tells_if : {a b : Bool} {P Q : Type 0} → Tells a P → Tells b Q → Tells (not a || b) (P → Q)
tells_if {a} {b} {P} {Q} d e = record { holds = λ h p. e.holds (pass a b h (d.told p)); told = λ f. back a b d.holds (λ p. e.told (f p)) }
  where
    pass : (a b : Bool) → (not a || b) ≡ true → a ≡ true → b ≡ true
    pass true b h k = h
    pass false b h k = absurd (false≢true k)

    back : (a b : Bool) → (a ≡ true → P) → (P → b ≡ true) → (not a || b) ≡ true
    back true b p q = q (p refl)
    back false b p q = refl

-- the test of two numbers tells whether they are equal
pub tells_eqb : (a b : ℕ) → Tells (eqb a b) (a ≡ b)
tells_eqb a b = record { holds = eqb-true a b; told = eq-eqb a b }

tells_leb : (a b : ℕ) → Tells (leb a b) (a ≤ b)
tells_leb a b = record { holds = leb-true a b; told = le-leb a b }

tells_ltb : (a b : ℕ) → Tells (ltb a b) (a < b)
tells_ltb a b = record { holds = ltb-true a b; told = lt-ltb a b }

pub tells_within : (a b : ℕ) → Tells (within a b) (Within a b)
tells_within a b = record { holds = within-true a b; told = true-within a b }

pub tells_apart : (a b : ℕ) → Tells (apart a b) (Apart a b)
tells_apart a b = record { holds = apart-true a b; told = true-apart a b }

pub tells_has : (a i : ℕ) → Tells (has a i) (Has a i)
unfolding has Has
tells_has a i = tells_eqb (a / 2 ^ i % 2) 1

-- ---- the tests of lists

pub tells_every : {P : ℕ → Type 0} (test : ℕ → Bool) (l : List ℕ) → ((x : ℕ) → Tells (test x) (P x)) → Tells (every test l) ((x : ℕ) → Among x l → P x)
unfolding every
tells_every test [] d = record { holds = λ e x h. absurd (Memᴰ.not-nil h); told = λ f. refl }
tells_every {P} test (y ∷ l) d = tells_also join (λ f. (f y (here refl), λ x h. f x (there h))) (tells_and (d y) (tells_every test l d))
  where
    at : P y × ((x : ℕ) → Among x l → P x) → (x : ℕ) → (x ≡ y) ⊎ Among x l → P x
    at f x (inl e) = subst P (sym e) f.0
    at f x (inr h) = f.1 x h

    join : P y × ((x : ℕ) → Among x l → P x) → (x : ℕ) → Among x (y ∷ l) → P x
    join f x h = at f x (Memᴰ.cases_cons h)

pub tells_among : (x : ℕ) (l : List ℕ) → Tells (among x l) (Among x l)
unfolding among some
tells_among x [] = record { holds = λ e. absurd (false≢true e); told = λ h. absurd (Memᴰ.not-nil h) }
tells_among x (y ∷ l) = tells_also join Memᴰ.cases_cons (tells_or (tells_eqb x y) (tells_among x l))
  where
    join : (x ≡ y) ⊎ Among x l → Among x (y ∷ l)
    join (inl e) = here e
    join (inr h) = there h

tells_below : (x : ℕ) (l : List ℕ) → Tells (below_first x l) (Below x l)
unfolding Below
tells_below x [] = record { holds = λ e. tt; told = λ h. refl }
tells_below x (y ∷ l) = tells_ltb x y

tells_rising : (l : List ℕ) → Tells (rising l) (Rising l)
unfolding rising Rising
tells_rising [] = record { holds = λ e. tt; told = λ h. refl }
tells_rising (x ∷ l) = tells_and (tells_below x l) (tells_rising l)

tells_singles : (n i s : ℕ) (l : List ℕ) → Tells (singles_from n i s l) ((j : ℕ) → i ≤ j → j < i + n → Has s j → Among (single j) l)
unfolding singles_from
tells_singles zero i s l = record { holds = λ e j low high. absurd (omega arith); told = λ f. refl }
tells_singles (suc n) i s l =
    tells_also join (λ f. (f i (omega arith) (omega arith), λ j low high. f j (omega arith) (omega arith)))
    (tells_and (tells_if (tells_has s i) (tells_among (single i) l)) (tells_singles n (suc i) s l))
  where
    at :
        (Has s i → Among (single i) l) × ((j : ℕ) → suc i ≤ j → j < suc i + n → Has s j → Among (single j) l) → (j : ℕ) → i ≤ j → j < i + suc n
        → Dec (j ≡ i) → Has s j → Among (single j) l
    at f j low high (yes e) h = subst (λ (k : ℕ). Among (single k) l) (sym e) (f.0 (subst (λ (k : ℕ). Has s k) e h))
    at f j low high (no d) h = f.1 j (omega (arith, d)) (omega arith) h

    join :
        (Has s i → Among (single i) l) × ((j : ℕ) → suc i ≤ j → j < suc i + n → Has s j → Among (single j) l) → (j : ℕ) → i ≤ j → j < i + suc n → Has s j
        → Among (single j) l
    join f j low high h = at f j low high (ℕ_discrete j i) h

tells_nested : (l : List ℕ) → Tells (nested l) ((a b : ℕ) → Among a l → Among b l → Nested a b)
unfolding nested
tells_nested l =
    tells_also (λ f a b h k. f a h b k) (λ f a h b k. f a b h k)
    (tells_every (λ a. every (λ b. apart a b || within a b || within b a) l) l
    (λ a. tells_every (λ b. apart a b || within a b || within b a) l
    (λ b. tells_also (regroup a b) (group a b) (tells_or (tells_or (tells_apart a b) (tells_within a b)) (tells_within b a)))))
  where
    regroup : (a b : ℕ) → (Apart a b ⊎ Within a b) ⊎ Within b a → Nested a b
    regroup a b (inl (inl h)) = inl h
    regroup a b (inl (inr h)) = inr (inl h)
    regroup a b (inr h) = inr (inr h)

    group : (a b : ℕ) → Nested a b → (Apart a b ⊎ Within a b) ⊎ Within b a
    group a b (inl h) = inl (inl h)
    group a b (inr (inl h)) = inl (inr h)
    group a b (inr (inr h)) = inr h

-- ---- zeros

zeros_of : (l : List ℕ) → ((x : ℕ) → Among x l → x ≡ 0) → l ≡ replicate (length l) 0
zeros_of [] f = refl
zeros_of (x ∷ l) f = ap₂ ◌∷◌ (f x (here refl)) (zeros_of l (λ y h. f y (there h)))

pub of_zeros : {x : ℕ} (n : ℕ) → Among x (replicate n 0) → x ≡ 0
of_zeros zero h = absurd (Memᴰ.not-nil h)
of_zeros {x} (suc n) h = go (Memᴰ.cases_cons h) (λ k. of_zeros n k)
  where
    go : (x ≡ 0) ⊎ Among x (replicate n 0) → (Among x (replicate n 0) → x ≡ 0) → x ≡ 0
    go (inl e) ih = e
    go (inr k) ih = ih k

-- ---- the record

module _ (b s : ℕ) (r : List ℕ) where
  -- the parts of the test, in its order
  Parts : Type 0
  Parts =
      (((((((length r ≡ 2 * b) × (count r ≤ 2 * b - 1)) × Rising (listed r)) × ((x : ℕ) → Among x (drop (1 + count r) r) → x ≡ 0))
      × ((i : ℕ) → 0 ≤ i → i < 0 + b → Has s i → Among (single i) (listed r)))
      × Among s (listed r))
      × ((a : ℕ) → Among a (listed r) → (1 ≤ a) × Within a s))
      × ((a b : ℕ) → Among a (listed r) → Among b (listed r) → Nested a b)

  tells_parts : Tells (valid_for b s r) Parts
  unfolding valid_for Parts
  tells_parts =
      tells_and
      (tells_and
      (tells_and
      (tells_and
      (tells_and (tells_and (tells_and (tells_eqb (length r) (2 * b)) (tells_leb (count r) (2 * b - 1))) (tells_rising (listed r)))
      (tells_every (λ x. eqb x 0) (drop (1 + count r) r) (λ x. tells_eqb x 0)))
      (tells_singles b 0 s (listed r)))
      (tells_among s (listed r)))
      (tells_every (λ a. leb 1 a && within a s) (listed r) (λ a. tells_and (tells_leb 1 a) (tells_within a s))))
      (tells_nested (listed r))

  valid_of_parts : s < 2 ^ b → Parts → ValidFor b s r
  unfolding Parts
  valid_of_parts below p =
      let long : length r ≡ 2 * b = p.0.0.0.0.0.0.0 in
      let few : count r ≤ 2 * b - 1 = p.0.0.0.0.0.0.1 in
      let behind : length (drop (1 + count r) r) ≡ 2 * b - 1 - count r = simp length-drop (omega arith) in
      record {
        form = record {
          sized = long;
          counted = few;
          rising = p.0.0.0.0.0.1;
          zeros = zeros_of (drop (1 + count r) r) p.0.0.0.0.1 ∙ ap (λ (n : ℕ). replicate n 0) behind;
        };
        singles = λ i h. p.0.0.0.1 i (omega arith) (omega (arith, has-below b below h)) h;
        all = p.0.0.1;
        inside = p.0.1;
        nested = p.1;
      }

  parts_of_valid : ValidFor b s r → Parts
  unfolding Parts
  parts_of_valid v = (
    (
      (
        (
          (
            ((v.form.sized, v.form.counted), v.form.rising),
            λ x h. of_zeros (2 * b - 1 - count r) (subst (λ (l : List ℕ). Among x l) v.form.zeros h),
          ),
          λ i low high h. v.singles i h,
        ),
        v.all,
      ),
      v.inside,
    ),
    v.nested,
  )

-- the test is true exactly when the record is valid
pub valid_decides : {b s : ℕ} (r : List ℕ) → s < 2 ^ b → Tells (valid_for b s r) (ValidFor b s r)
valid_decides {b} {s} r below = tells_also (valid_of_parts b s r below) (parts_of_valid b s r) (tells_parts b s r)

-- the test is true exactly when the record has as many clusters as a binary tree's
pub binary_decides : (s : ℕ) (r : List ℕ) → Tells (binary s r) (BinaryOn s r)
unfolding binary
binary_decides s r = tells_eqb (count r + 1) (2 * size s)

-- ---- replies that decide

-- a reply that decides what a test tells is that test
pub reply_is_test : (b : Bool) {test : Bool} {P : Type 0} → Tells test P → Decides b P → b ≡ test
reply_is_test true d p = sym (d.told p)
reply_is_test false {test} d n = go test (λ e. n (d.holds e))
  where
    go : (t : Bool) → (t ≡ true → ⊥) → false ≡ t
    go true f = absurd (f refl)
    go false f = refl

pub valid-reply : {s : ℕ} (b : ℕ) (reply : Bool) (r : List ℕ) → s < 2 ^ b → Decides reply (ValidFor b s r) → reply ≡ valid_for b s r
valid-reply b reply r below d = reply_is_test reply (valid_decides {b = b} r below) d

pub binary-reply : (b : Bool) (s : ℕ) (r : List ℕ) → Decides b (BinaryOn s r) → b ≡ binary s r
binary-reply b s r d = reply_is_test b (binary_decides s r) d
