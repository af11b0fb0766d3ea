-- The one pass over a gene tree's clusters, from the smallest up: what it has counted are the nodes passed that have a child within A.
use Prim.Native.Nat.{ℕ, suc, ◌+◌, ◌-◌, ◌≤◌, ◌<◌}
use mathlib.Core.Path.{◌≡◌, refl, sym, ap, ap₂, ◌∙◌, subst}
use mathlib.Core.Bool.{Bool, true, false, ◌&&◌, and-true, and-false, and_assoc}
use mathlib.Core.Logic.{◌⊎◌, inl, inr}
use mathlib.Core.List.Memᴰ
use mathlib.Core.List.Memᴰ.{head as here}
use mathlib.Core.List.{List, [], ◌∷◌, ◌++◌}
use native.Mathlib.Numerals.{add-one}
use native.Mathlib.Omega.{arith}
use lib.ListN.{length, take, drop, get_or, length-take, take-append-drop}
use lib.Seq.{take-suc, drop-cons, get_or-take, get_or-drop, take_all}
use lib.Bits.{bit_and}
use Rattle.clusters.specs.Sets.{Has, Within, within, single}
use Rattle.clusters.proofs.Members.{single-has, some_has, has_some, has_and, and_has, has_of_apart, has_of_within}
use Rattle.clusters.proofs.Sets.{within-le, within_trans, within_dec, single-within, has_minus, minus_has, within-true, within-false}
use Rattle.clusters.proofs.Parts.{part_and}
use Rattle.trees.specs.Lists.{Among, Rising}
use Rattle.trees.specs.Records.{count, listed, Nested}
use Rattle.trees.specs.Valid.{every}
use Rattle.trees.specs.Drawn.{children}
use Rattle.trees.proofs.Booleans.{unless}
use Rattle.trees.proofs.Order.{rising-below}
use Rattle.trees.proofs.Children.{Hierarchy, hierarchy_of_valid, Child, among-children, within-child}
use Rattle.weights.specs.Count.{holds_maximal, k_of, one_or}
use Rattle.weights.specs.Work.{CountableFor}
use Rattle.weights.proofs.Joining.{Joins, Clusters, tells_joins, joining, joining_none, joining_append, joining-counted, joining-passed, passed-inside, k_either}
use Rattle.weights.proofs.Checked.{listed-fits, listed_at}

-- ---- rising lists, cut at a place

-- what stands before a place is smaller, what is smaller stands before it
pub rising-before : (x : ℕ) {y : ℕ} (done rest : List ℕ) → Rising (done ++ (x ∷ rest)) → Among y done → y < x
unfolding Rising
rising-before x [] rest r m = absurd (Memᴰ.not-nil m)
rising-before x {y} (z ∷ done) rest r m = go (Memᴰ.cases_cons m) (λ h. rising-before x done rest r.1 h)
  where
    go : (y ≡ z) ⊎ Among y done → (Among y done → y < x) → y < x
    go (inl e) later = let l = rising-below (done ++ (x ∷ rest)) r (Memᴰ.append_right done (here refl)) in omega arith
    go (inr h) later = later h

-- from a place on a rising list rises
pub rising-behind : (x : ℕ) (done rest : List ℕ) → Rising (done ++ (x ∷ rest)) → Rising (x ∷ rest)
unfolding Rising
rising-behind x [] rest r = r
rising-behind x (z ∷ done) rest r = rising-behind x done rest r.1

before-rising : (x : ℕ) {y : ℕ} (done rest : List ℕ) → Rising (done ++ (x ∷ rest)) → Among y (done ++ (x ∷ rest)) → y < x → Among y done
before-rising x {y} done rest r m l = go (Memᴰ.append_cases done m)
  where
    later : (y ≡ x) ⊎ Among y rest → Among y done
    later (inl e) = absurd (omega arith)
    later (inr h) = let k = rising-below rest (rising-behind x done rest r) h in absurd (omega arith)

    go : Among y done ⊎ Among y (x ∷ rest) → Among y done
    go (inl h) = h
    go (inr h) = later (Memᴰ.cases_cons h)

-- ---- the species of A that no node passed so far holds beside one that is not of A

pub record Loose (a : ℕ) (done : List ℕ) (loose : ℕ) : Type 0 where
  pub of_a : (j : ℕ) → Has loose j → Has a j
  pub unheld : (j y : ℕ) → Has loose j → Among y done → (Within y a → ⊥) → Has y j → ⊥
  pub all_such : (j : ℕ) → Has a j → ((y : ℕ) → Among y done → (Within y a → ⊥) → Has y j → ⊥) → Has loose j

loose_start : (a : ℕ) → Loose a [] a
loose_start a = record { of_a = λ j h. h; unheld = λ j y h m. absurd (Memᴰ.not-nil m); all_such = λ j h f. h }

module _ {a loose : ℕ} {done : List ℕ} (x : ℕ) (now : Loose a done loose) where
  -- a cluster within A changes nothing
  loose_inside : Within x a → Loose a (done ++ (x ∷ [])) loose
  loose_inside w = record {
    of_a = now.of_a;
    unheld = λ j y h m off k. at j y h off k (Memᴰ.append_cases done m);
    all_such = λ j h f. now.all_such j h (λ y m. f y (Memᴰ.append_left (x ∷ []) m));
  }
    where
      at : (j y : ℕ) → Has loose j → (Within y a → ⊥) → Has y j → Among y done ⊎ Among y (x ∷ []) → ⊥
      at j y h off k (inl m) = now.unheld j y h m off k
      at j y h off k (inr m) = off (subst (λ (z : ℕ). Within z a) (sym (Memᴰ.eq_of_singleton m)) w)

  -- one that is not takes its species out
  loose_outside : (Within x a → ⊥) → Loose a (done ++ (x ∷ [])) (loose - bit_and x loose)
  loose_outside off = record {
    of_a = λ j h. now.of_a j (has_minus loose (bit_and x loose) j (part_and x loose) h).0;
    unheld = λ j y h m out k. at j y (has_minus loose (bit_and x loose) j (part_and x loose) h) out k (Memᴰ.append_cases done m);
    all_such = λ j h f.
        minus_has loose (bit_and x loose) j (part_and x loose) (now.all_such j h (λ y m. f y (Memᴰ.append_left (x ∷ []) m)))
        (λ k. f x (Memᴰ.append_right done (here refl)) off (has_and x loose j k).0);
  }
    where
      at : (j y : ℕ) → Has loose j × (Has (bit_and x loose) j → ⊥) → (Within y a → ⊥) → Has y j → Among y done ⊎ Among y (x ∷ []) → ⊥
      at j y h out k (inl m) = now.unheld j y h.0 m out k
      at j y h out k (inr m) = h.1 (and_has x loose j (rw (Memᴰ.eq_of_singleton m) at k) h.0)

pub taken-out-le : (x loose : ℕ) → bit_and x loose ≤ loose
taken-out-le x loose = within-le (part_and x loose)

-- ---- the node at a place

module _ {s a loose : ℕ} (x : ℕ) (done rest : List ℕ) (h : Hierarchy s (done ++ (x ∷ rest))) (rising : Rising (done ++ (x ∷ rest)))
    (now : Loose a done loose) (off : Within x a → ⊥) where
  here_it_is : Among x (done ++ (x ∷ rest))
  here_it_is = Memᴰ.append_right done (here refl)

  all_clusters : Clusters (done ++ (x ∷ rest))
  all_clusters = record { some = λ y m. (h.inside y m).0; nested = h.nested }

  -- the child that holds a loose species lies within A: else the species would be held by a node that was passed
  joins_of_loose : (j : ℕ) → Has x j → Has loose j → Joins (done ++ (x ∷ rest)) a x
  joins_of_loose j m l = go (within_dec c.0 a)
    where
      alone : single j ≡ x → ⊥
      alone e = off (subst (λ (y : ℕ). Within y a) e (single-within a j (now.of_a j l)))

      c : (y : ℕ) × Among y (children (done ++ (x ∷ rest)) x) × Within (single j) y
      c = within-child h (h.singles j (has_of_within x s j (h.inside x here_it_is).1 m)) (single-within x j m) alone

      child : Child (done ++ (x ∷ rest)) x c.0
      child = among-children (done ++ (x ∷ rest)) x c.1

      smaller : c.0 < x
      smaller = let le = within-le child.inside in let other = child.other in omega arith

      go : Dec (Within c.0 a) → Joins (done ++ (x ∷ rest)) a x
      go (yes w) = record { outside = off; held = c.0; child = child; inside = w }
      go (no n) =
          absurd (now.unheld j c.0 l (before-rising x done rest rising child.among smaller) n
          (has_of_within (single j) c.0 j c.2 (single-has j)))

  -- and the species of a child within A are loose
  loose_of_joins : (q : Joins (done ++ (x ∷ rest)) a x) (j : ℕ) → Has q.held j → Has loose j
  loose_of_joins q j m =
      now.all_such j (has_of_within q.held a j q.inside m)
      (λ y k out n. at y k out n (h.nested y q.held (Memᴰ.append_left (x ∷ rest) k) q.child.among)
      (h.nested y x (Memᴰ.append_left (x ∷ rest) k) here_it_is))
    where
      at : (y : ℕ) → Among y done → (Within y a → ⊥) → Has y j → Nested y q.held → Nested y x → ⊥
      at y k out n (inl d) e = has_of_apart y q.held j d n m
      at y k out n (inr (inl w)) e = out (within_trans y q.held a w q.inside)
      at y k out n (inr (inr w)) (inl d) = has_of_apart y x j d n (has_of_within q.held x j q.child.inside m)
      at y k out n (inr (inr w)) (inr (inl v)) =
          let l = rising-before x done rest rising k in
          let e = q.child.greatest y (Memᴰ.append_left (x ∷ rest) k) v (λ e. omega arith) w in
          out (subst (λ (z : ℕ). Within z a) e q.inside)
      at y k out n (inr (inr w)) (inr (inr v)) = let l = rising-before x done rest rising k in let le = within-le v in omega arith

  -- so the node is counted exactly when it has a loose species
  pub counted_here : 1 ≤ bit_and x loose → holds_maximal (done ++ (x ∷ rest)) a x ≡ true
  counted_here some =
      let j = some_has (bit_and x loose) some in
      let m = has_and x loose j.0 j.1 in
      (tells_joins (done ++ (x ∷ rest)) a x all_clusters here_it_is).told (joins_of_loose j.0 m.0 m.1)

  pub passed_here : bit_and x loose ≡ 0 → holds_maximal (done ++ (x ∷ rest)) a x ≡ false
  passed_here none = unless (holds_maximal (done ++ (x ∷ rest)) a x) (λ e. no_joins ((tells_joins (done ++ (x ∷ rest)) a x all_clusters here_it_is).holds e))
    where
      no_joins : Joins (done ++ (x ∷ rest)) a x → ⊥
      no_joins q =
          let j = some_has q.held (h.inside q.held q.child.among).0 in
          let m = and_has x loose j.0 (has_of_within q.held x j.0 q.child.inside j.1) (loose_of_joins q j.0 j.1) in
          omega (arith, has_some j.0 m)

-- ---- the pass over a record

-- every cluster of a longer list lies within A
every_more : (a x : ℕ) (l : List ℕ) → every (λ y. within y a) (l ++ (x ∷ [])) ≡ (every (λ y. within y a) l && within x a)
unfolding every
every_more a x [] = and-true (within x a)
every_more a x (y ∷ l) = ap (λ (b : Bool). within y a && b) (every_more a x l) ∙ sym (and_assoc (within y a) (every (λ y. within y a) l) (within x a))

-- the first i clusters of g are behind the pass
pub record Passing (g : List ℕ) (a k loose : ℕ) (all : Bool) (i : ℕ) : Type 0 where
  pub place : i ≤ count g
  pub few : k ≤ i
  pub counted : k ≡ joining (listed g) a (take i (listed g))
  pub held : all ≡ every (λ x. within x a) (take i (listed g))
  pub left : Loose a (take i (listed g)) loose

pub passing_start : (g : List ℕ) (a : ℕ) → Passing g a 0 a true 0
unfolding every
passing_start g a = record { place = omega arith; few = omega arith; counted = sym (joining_none (listed g) a); held = refl; left = loose_start a }

-- one cluster on: within A, not within A and not counted, or counted
module _ {b : ℕ} {g : List ℕ} {a k loose : ℕ} {all : Bool} {i : ℕ} (can : CountableFor b g) (now : Passing g a k loose all i) (more : i < count g) where
  inside : i < length (listed g)
  inside = omega (arith, length-take (count g) (drop 1 g), listed-fits can.valid.form)

  read : get_or (listed g) i 0 ≡ get_or g (i + 1) 0
  read = get_or-take (count g) (drop 1 g) i 0 more ∙ get_or-drop 1 g i 0 ∙ ap (λ (j : ℕ). get_or g j 0) (omega arith)

  further : take (i + 1) (listed g) ≡ take i (listed g) ++ (get_or g (i + 1) 0 ∷ [])
  further =
      ap (λ (j : ℕ). take j (listed g)) (add-one i) ∙ take-suc (listed g) i 0 inside ∙ ap (λ (y : ℕ). take i (listed g) ++ (y ∷ [])) read

  parts : listed g ≡ take i (listed g) ++ (get_or g (i + 1) 0 ∷ drop (suc i) (listed g))
  parts =
      sym (take-append-drop i (listed g))
      ∙ ap (λ (l : List ℕ). take i (listed g) ++ l) (drop-cons (listed g) i 0 inside ∙ ap (λ (y : ℕ). y ∷ drop (suc i) (listed g)) read)

  tree : Hierarchy can.species (take i (listed g) ++ (get_or g (i + 1) 0 ∷ drop (suc i) (listed g)))
  tree = subst (λ (l : List ℕ). Hierarchy can.species l) parts (hierarchy_of_valid can.valid can.small)

  rising : Rising (take i (listed g) ++ (get_or g (i + 1) 0 ∷ drop (suc i) (listed g)))
  rising = subst (λ (l : List ℕ). Rising l) parts can.valid.form.rising

  -- what is said of the node, said of the record
  told : {b : Bool} → holds_maximal (take i (listed g) ++ (get_or g (i + 1) 0 ∷ drop (suc i) (listed g))) a (get_or g (i + 1) 0) ≡ b
      → holds_maximal (listed g) a (get_or g (i + 1) 0) ≡ b
  told {b} e = subst (λ (l : List ℕ). holds_maximal l a (get_or g (i + 1) 0) ≡ b) (sym parts) e

  counts : {m : ℕ} → joining (listed g) a (get_or g (i + 1) 0 ∷ []) ≡ m → k + m ≡ joining (listed g) a (take (i + 1) (listed g))
  counts {m} e = rw further (omega (arith, joining_append (listed g) a (take i (listed g)) (get_or g (i + 1) 0 ∷ []), now.counted))

  holds : {b : Bool} → within (get_or g (i + 1) 0) a ≡ b → (all && b) ≡ every (λ y. within y a) (take (i + 1) (listed g))
  holds {b} e =
      ap (λ (c : Bool). c && b) now.held ∙ ap (λ (c : Bool). every (λ y. within y a) (take i (listed g)) && c) (sym e)
      ∙ sym (every_more a (get_or g (i + 1) 0) (take i (listed g)))
      ∙ ap (every (λ y. within y a)) (sym further)

  off : Within (get_or g (i + 1) 0) a → holds_maximal (listed g) a (get_or g (i + 1) 0) ≡ false
  off w =
      passed-inside (listed g) a (get_or g (i + 1) 0)
      (record { some = λ y m. (can.valid.inside y m).0; nested = can.valid.nested })
      (listed_at (i + 1) can.valid.form (omega arith) (omega arith)) w

  pub passing-inside : within (get_or g (i + 1) 0) a ≡ true → Passing g a k loose all (i + 1)
  passing-inside e = record {
    place = omega arith;
    few = omega (arith, now.few);
    counted = omega (arith, counts (joining-passed (listed g) a (get_or g (i + 1) 0) (off (within-true (get_or g (i + 1) 0) a e))));
    held = sym (and-true all) ∙ holds e;
    left = rw further (loose_inside (get_or g (i + 1) 0) now.left (within-true (get_or g (i + 1) 0) a e));
  }

  pub passing-outside : within (get_or g (i + 1) 0) a ≡ false → bit_and (get_or g (i + 1) 0) loose ≡ 0 → Passing g a k loose false (i + 1)
  passing-outside e none = record {
    place = omega arith;
    few = omega (arith, now.few);
    counted =
        omega (arith, counts (joining-passed (listed g) a (get_or g (i + 1) 0) (told (passed_here _ _ _ tree rising now.left (within-false _ a e) none))));
    held = sym (and-false all) ∙ holds e;
    left = rw further (subst (λ (rest : ℕ). Loose a (take i (listed g) ++ (get_or g (i + 1) 0 ∷ [])) rest) kept
        (loose_outside (get_or g (i + 1) 0) now.left (within-false (get_or g (i + 1) 0) a e)));
  }
    where
      kept : loose - bit_and (get_or g (i + 1) 0) loose ≡ loose
      kept = omega arith

  pub passing-counted :
      within (get_or g (i + 1) 0) a ≡ false → (bit_and (get_or g (i + 1) 0) loose ≡ 0 → ⊥)
      → Passing g a (k + 1) (loose - bit_and (get_or g (i + 1) 0) loose) false (i + 1)
  passing-counted e some = record {
    place = omega arith;
    few = omega (arith, now.few);
    counted = counts (joining-counted (listed g) a (get_or g (i + 1) 0) (told (counted_here _ _ _ tree rising now.left (within-false _ a e) (omega (arith, some)))));
    held = sym (and-false all) ∙ holds e;
    left = rw further (loose_outside (get_or g (i + 1) 0) now.left (within-false (get_or g (i + 1) 0) a e));
  }

-- when all clusters are behind it, k is counted, or a holds them all
pub passing_end : {g : List ℕ} {a k loose i : ℕ} {all b : Bool} → Passing g a k loose all i → count g ≤ i → all ≡ b → one_or b k ≡ k_of (listed g) a
passing_end {g} {a} {k} {loose} {i} {all} now done e =
    ap (λ (c : Bool). one_or c k) (sym e) ∙
    ap₂ one_or (now.held ∙ ap (every (λ x. within x a)) whole) (now.counted ∙ ap (joining (listed g) a) whole) ∙ sym (k_either (listed g) a)
  where
    whole : take i (listed g) ≡ listed g
    whole = take_all i (listed g) (omega (arith, length-take (count g) (drop 1 g)))
