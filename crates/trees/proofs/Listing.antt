-- Lists of numbers: what stands in them, which of them pass a test, lists that hold no number twice, and lists that are others with some left out.
use Prim.Native.Nat.{ℕ}
use mathlib.Core.Path.{◌≡◌, refl, sym, ap, ◌∙◌}
use mathlib.Core.Logic.{◌⊎◌, inl, inr}
use mathlib.Core.Bool.{Bool, true, false, ◌||◌, true≢false, false≢true}
use mathlib.Core.List.{List, [], ◌∷◌, ◌++◌}
use mathlib.Core.List.Memᴰ
use mathlib.Core.List.Memᴰ.{head as here}
use mathlib.Core.List.Memᴰ.{tail as there}
use mathlib.Core.List.{Memᴰ}
use Rattle.trees.specs.Lists.{Among, keep_if, keep, some, NoneTwice, Sublist}
use Rattle.trees.specs.Lists.Sublist.{ends, kept, added}

-- ---- the numbers of a list that pass a test

pub keep-among : (test : ℕ → Bool) {x : ℕ} (l : List ℕ) → Among x l → test x ≡ true → Among x (keep test l)
unfolding keep
keep-among test {x} [] h e = absurd (Memᴰ.not-nil h)
keep-among test {x} (y ∷ l) h e = go (test y) refl (Memᴰ.cases_cons h) (λ k. keep-among test l k e)
  where
    go : (b : Bool) → test y ≡ b → (x ≡ y) ⊎ Among x l → (Among x l → Among x (keep test l)) → Among x (keep_if b y (keep test l))
    go true p (inl q) ih = here q
    go true p (inr k) ih = there (ih k)
    go false p (inl q) ih = absurd (true≢false (sym e ∙ ap test q ∙ p))
    go false p (inr k) ih = ih k

pub among-keep : (test : ℕ → Bool) {x : ℕ} (l : List ℕ) → Among x (keep test l) → Among x l × (test x ≡ true)
unfolding keep
among-keep test {x} [] h = absurd (Memᴰ.not-nil h)
among-keep test {x} (y ∷ l) h = go (test y) refl h (λ k. among-keep test l k)
  where
    front : test y ≡ true → (x ≡ y) ⊎ Among x (keep test l) → (Among x (keep test l) → Among x l × (test x ≡ true)) → Among x (y ∷ l) × (test x ≡ true)
    front p (inl q) ih = (here q, ap test q ∙ p)
    front p (inr k) ih = let r = ih k in (there r.0, r.1)

    go : (b : Bool) → test y ≡ b → Among x (keep_if b y (keep test l)) → (Among x (keep test l) → Among x l × (test x ≡ true)) → Among x (y ∷ l) × (test x ≡ true)
    go true p h ih = front p (Memᴰ.cases_cons h) ih
    go false p h ih = let r = ih h in (there r.0, r.1)

pub some_of : (test : ℕ → Bool) {x : ℕ} (l : List ℕ) → Among x l → test x ≡ true → some test l ≡ true
unfolding some
some_of test {x} [] h e = absurd (Memᴰ.not-nil h)
some_of test {x} (y ∷ l) h e = go (test y) refl (Memᴰ.cases_cons h) (λ k. some_of test l k e)
  where
    go : (b : Bool) → test y ≡ b → (x ≡ y) ⊎ Among x l → (Among x l → some test l ≡ true) → (b || some test l) ≡ true
    go true p h ih = refl
    go false p (inl q) ih = absurd (true≢false (sym e ∙ ap test q ∙ p))
    go false p (inr k) ih = ih k

pub of_some : (test : ℕ → Bool) (l : List ℕ) → some test l ≡ true → (x : ℕ) × Among x l × (test x ≡ true)
unfolding some
of_some test [] e = absurd (false≢true e)
of_some test (y ∷ l) e = go (test y) refl e (λ k. of_some test l k)
  where
    go : (b : Bool) → test y ≡ b → (b || some test l) ≡ true → (some test l ≡ true → (x : ℕ) × Among x l × (test x ≡ true)) → (x : ℕ) × Among x (y ∷ l) × (test x ≡ true)
    go true p e ih = (y, here refl, p)
    go false p e ih = let r = ih e in (r.0, there r.1, r.2)

-- what each of two lists passes on, they pass on one behind the other
pub append_passes :
    {A B : Type 0} {x : A} {y : B} (l k : List A) (l' k' : List B) → (Memᴰ x l → Memᴰ y l') → (Memᴰ x k → Memᴰ y k')
    → Memᴰ x (l ++ k) → Memᴰ y (l' ++ k')
append_passes {A} {B} {x} {y} l k l' k' f g m = go (Memᴰ.append_cases l m)
  where
    go : Memᴰ x l ⊎ Memᴰ x k → Memᴰ y (l' ++ k')
    go (inl h) = Memᴰ.append_left k' (f h)
    go (inr h) = Memᴰ.append_right l' (g h)

-- ---- lists that hold no number twice

-- those of two lists that pass are those of the first and those of the second
pub keep_append : (test : ℕ → Bool) (l k : List ℕ) → keep test (l ++ k) ≡ keep test l ++ keep test k
unfolding keep
keep_append test [] k = refl
keep_append test (x ∷ l) k = go (test x) (keep_append test l k)
  where
    go : (b : Bool) → keep test (l ++ k) ≡ keep test l ++ keep test k → keep_if b x (keep test (l ++ k)) ≡ keep_if b x (keep test l) ++ keep test k
    go true e = ap (λ (r : List ℕ). x ∷ r) e
    go false e = e

pub none_twice_append : (l k : List ℕ) → NoneTwice l → NoneTwice k → ((x : ℕ) → Among x l → Among x k → ⊥) → NoneTwice (l ++ k)
unfolding NoneTwice
none_twice_append [] k p q d = q
none_twice_append (y ∷ l) k p q d =
    (λ h. go (Memᴰ.append_cases l h), none_twice_append l k p.1 q (λ x h m. d x (there h) m))
  where
    go : Among y l ⊎ Among y k → ⊥
    go (inl h) = p.0 h
    go (inr h) = d y (here refl) h

pub none_twice_left : (l k : List ℕ) → NoneTwice (l ++ k) → NoneTwice l
unfolding NoneTwice
none_twice_left [] k p = tt
none_twice_left (y ∷ l) k p = (λ h. p.0 (Memᴰ.append_left k h), none_twice_left l k p.1)

pub none_twice_right : (l k : List ℕ) → NoneTwice (l ++ k) → NoneTwice k
unfolding NoneTwice
none_twice_right [] k p = p
none_twice_right (y ∷ l) k p = none_twice_right l k p.1

pub none_twice_parts : (l k : List ℕ) → NoneTwice (l ++ k) → (x : ℕ) → Among x l → Among x k → ⊥
unfolding NoneTwice
none_twice_parts [] k p x h m = Memᴰ.not-nil h
none_twice_parts (y ∷ l) k p x h m = go (Memᴰ.cases_cons h) (λ h'. none_twice_parts l k p.1 x h' m)
  where
    go : (x ≡ y) ⊎ Among x l → (Among x l → ⊥) → ⊥
    go (inl e) ih = p.0 (Memᴰ.append_right l (Memᴰ.cast (sym e) m))
    go (inr h) ih = ih h

pub none_twice_keep : (test : ℕ → Bool) (l : List ℕ) → NoneTwice l → NoneTwice (keep test l)
unfolding NoneTwice keep
none_twice_keep test [] p = tt
none_twice_keep test (y ∷ l) p = go (test y) (none_twice_keep test l p.1)
  where
    go : (b : Bool) → NoneTwice (keep test l) → NoneTwice (keep_if b y (keep test l))
    go true ih = (λ h. p.0 (among-keep test l h).0, ih)
    go false ih = ih

pub none_twice_one : (x : ℕ) → NoneTwice (x ∷ [])
unfolding NoneTwice
none_twice_one x = (λ h. Memᴰ.not-nil h, tt)

-- ---- lists that are others with some left out

pub sublist_append : {a b c d : List ℕ} → Sublist a b → Sublist c d → Sublist (a ++ c) (b ++ d)
sublist_append ends k = k
sublist_append (kept h) k = kept (sublist_append h k)
sublist_append (added h) k = added (sublist_append h k)

pub sublist_same : (l : List ℕ) → Sublist l l
sublist_same [] = ends
sublist_same (x ∷ l) = kept (sublist_same l)

pub sublist_among : {l k : List ℕ} → Sublist l k → (x : ℕ) → Among x l → Among x k
sublist_among ends x m = m
sublist_among (kept {x = y} {l = l} {k = k} h) x m = go (Memᴰ.cases_cons m) (λ i. sublist_among h x i)
  where
    go : (x ≡ y) ⊎ Among x l → (Among x l → Among x k) → Among x (y ∷ k)
    go (inl e) later = here e
    go (inr i) later = there (later i)
sublist_among (added h) x m = there (sublist_among h x m)

pub sublist_once : {l k : List ℕ} → Sublist l k → NoneTwice k → NoneTwice l
unfolding NoneTwice
sublist_once ends p = tt
sublist_once (kept {x = y} h) p = (λ m. p.0 (sublist_among h y m), sublist_once h p.1)
sublist_once (added h) p = sublist_once h p.1
