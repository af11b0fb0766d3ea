-- The passes over a gene tree's clusters without a root: from the largest down, taking each maximal cluster out of A; and from the smallest up to the first that holds a set.
use Prim.Native.Nat.{ℕ, suc, ◌+◌, ◌-◌, ◌≤◌, ◌<◌}
use mathlib.Core.Path.{◌≡◌, refl, sym, ap, ◌∙◌, subst}
use mathlib.Core.Bool.{true, false}
use mathlib.Core.Logic.{◌⊎◌, inl, inr}
use mathlib.Core.List.Memᴰ
use mathlib.Core.List.Memᴰ.{head as here}
use mathlib.Core.List.Memᴰ.{tail as there}
use mathlib.Core.List.{List, [], ◌∷◌, ◌++◌}
use native.Mathlib.Omega.{arith}
use lib.ListN.{length, take, drop, get_or, length-take, take-append-drop}
use lib.Seq.{take-suc, take_all, get_or-take, get_or-drop}
use Rattle.clusters.specs.Sets.{Within, within}
use Rattle.clusters.proofs.Sets.{within_trans, within-le, within-true, within-false, within-apart, minus_within}
use Rattle.trees.specs.Lists.{Among, NoneTwice, Below, Rising}
use Rattle.trees.specs.Records.{count, listed, largest, FormFor, Nested}
use Rattle.trees.proofs.Listing.{none_twice_left}
use Rattle.trees.proofs.Order.{rising-below, rising_none_twice}
use Rattle.trees.proofs.GeneRecords.{among-le-largest}
use Rattle.trees.proofs.MayUnroot.{apart-rest}
use Rattle.weights.specs.Count.{maximal_within, k_drawn}
use Rattle.weights.specs.Work.{CountableFor, SmallestHolder}
use Rattle.weights.proofs.Tops.{Top, among-tops, tops-among, tops-once, top_also, drawn-counts, drawn-tops, drawn_none}
use Rattle.weights.proofs.Joining.{Clusters}
use Rattle.weights.proofs.Complements.{apart_minus}
use Rattle.weights.proofs.Pass.{rising-before, rising-behind}
use Rattle.weights.proofs.Checked.{listed-fits, listed_from, listed_at}

-- ---- 01's count by the last of rising clusters

rising_left : (l k : List ℕ) → Rising (l ++ k) → Rising l
unfolding Rising Below
rising_left [] k r = tt
rising_left (x ∷ []) k r = (tt, tt)
rising_left (x ∷ (y ∷ l)) k r = (r.0, rising_left (y ∷ l) k r.1)

module _ (cs : List ℕ) (x left : ℕ) (rising : Rising (cs ++ (x ∷ []))) (h : Clusters (cs ++ (x ∷ []))) where
  once : NoneTwice (cs ++ (x ∷ []))
  once = rising_none_twice (cs ++ (x ∷ [])) rising

  before : {c : ℕ} → Among c cs → Among c (cs ++ (x ∷ []))
  before m = Memᴰ.append_left (x ∷ []) m

  at_end : Among x (cs ++ (x ∷ []))
  at_end = Memᴰ.append_right cs (here refl)

  either-place : {c : ℕ} → Among c (cs ++ (x ∷ [])) → Among c cs ⊎ (c ≡ x)
  either-place {c} m = go (Memᴰ.append_cases cs m)
    where
      go : Among c cs ⊎ Among c (x ∷ []) → Among c cs ⊎ (c ≡ x)
      go (inl k) = inl k
      go (inr k) = inr (Memᴰ.eq_of_singleton k)

  -- one that does not lie within A is passed over
  last_passed : (Within x left → ⊥) → k_drawn (cs ++ (x ∷ [])) left ≡ k_drawn cs left
  last_passed off =
      drawn-counts (cs ++ (x ∷ [])) left (maximal_within cs left) once (tops-once cs left (none_twice_left cs (x ∷ []) once))
      (λ c t. tops-among cs left (top_also (λ m. own c t.inside (either-place m)) (λ y m w. before m) t))
      (λ c m. top_also before (λ y k w. own y w (either-place k)) (among-tops cs left m))
      ∙ sym (drawn-tops cs left)
    where
      own : (c : ℕ) → Within c left → Among c cs ⊎ (c ≡ x) → Among c cs
      own c w (inl m) = m
      own c w (inr e) = absurd (off (subst (λ (y : ℕ). Within y left) e w))

  -- one that does is maximal, and the others are those within what it leaves of A
  last_taken : Within x left → k_drawn (cs ++ (x ∷ [])) left ≡ suc (k_drawn cs (left - x))
  unfolding NoneTwice
  last_taken inside =
      drawn-counts (cs ++ (x ∷ [])) left (x ∷ maximal_within cs (left - x)) once (alone, tops-once cs (left - x) (none_twice_left cs (x ∷ []) once))
      (λ c t. to c t (either-place t.among)) (λ c m. from c (Memᴰ.cases_cons m))
      ∙ ap suc (sym (drawn-tops cs (left - x)))
    where
      smaller : {c : ℕ} → Among c cs → c < x
      smaller m = rising-before x cs [] rising m

      alone : Among x (maximal_within cs (left - x)) → ⊥
      alone m = let l = smaller (among-tops cs (left - x) m).among in omega arith

      not_both : (c : ℕ) → Among c cs → Within c x → Within c (left - x) → ⊥
      not_both c m w u = let none = within-apart (left - x) u (apart_minus left c x inside w) in omega (arith, h.some c (before m))

      rest : (c : ℕ) → Top (cs ++ (x ∷ [])) left c → Among c cs → Nested c x → Among c (x ∷ maximal_within cs (left - x))
      rest c t m (inl d) =
          there (tops-among cs (left - x) (record {
            among = m;
            inside = apart-rest left x c inside t.inside d;
            greatest = λ y k u l. t.greatest y (before k) (within_trans y (left - x) left u (minus_within left x inside)) l;
          }))
      rest c t m (inr (inl w)) = here (t.greatest x at_end inside w)
      rest c t m (inr (inr w)) = let l = smaller m in let k = within-le w in absurd (omega arith)

      to : (c : ℕ) → Top (cs ++ (x ∷ [])) left c → Among c cs ⊎ (c ≡ x) → Among c (x ∷ maximal_within cs (left - x))
      to c t (inl m) = rest c t m (h.nested c x (before m) at_end)
      to c t (inr e) = here e

      none_larger : (c y : ℕ) → Within c y → Top cs (left - x) c → Within y left → Among y cs → Nested y x → c ≡ y
      none_larger c y l t u m (inl d) = t.greatest y m (apart-rest left x y inside u d) l
      none_larger c y l t u m (inr (inl w)) = absurd (not_both c t.among (within_trans c y x l w) t.inside)
      none_larger c y l t u m (inr (inr w)) = let k = smaller m in let j = within-le w in absurd (omega arith)

      rest-top : (c : ℕ) → Top cs (left - x) c → Top (cs ++ (x ∷ [])) left c
      rest-top c t = record {
        among = before t.among;
        inside = within_trans c (left - x) left t.inside (minus_within left x inside);
        greatest = λ y m u l. go y u l (either-place m);
      }
        where
          go : (y : ℕ) → Within y left → Within c y → Among y cs ⊎ (y ≡ x) → c ≡ y
          go y u l (inl m) = none_larger c y l t u m (h.nested y x (before m) at_end)
          go y u l (inr e) = absurd (not_both c t.among (subst (λ (z : ℕ). Within c z) e l) t.inside)

      last_top : Top (cs ++ (x ∷ [])) left x
      last_top = record { among = at_end; inside = inside; greatest = λ y m u l. go y l (either-place m) }
        where
          go : (y : ℕ) → Within x y → Among y cs ⊎ (y ≡ x) → x ≡ y
          go y l (inl m) = let k = smaller m in let j = within-le l in absurd (omega arith)
          go y l (inr e) = sym e

      from : (c : ℕ) → (c ≡ x) ⊎ Among c (maximal_within cs (left - x)) → Top (cs ++ (x ∷ [])) left c
      from c (inl e) = subst (λ (z : ℕ). Top (cs ++ (x ∷ [])) left z) (sym e) last_top
      from c (inr m) = rest-top c (among-tops cs (left - x) m)

-- ---- the clusters around a place

module _ {width : ℕ} {g : List ℕ} (i : ℕ) (form : FormFor width g) (one : 1 ≤ i) (last : i ≤ count g) where
  split_here : listed g ≡ take (i - 1) (listed g) ++ (get_or g i 0 ∷ drop (i + 1 - 1) (listed g))
  split_here = sym (take-append-drop (i - 1) (listed g)) ∙ ap (λ (l : List ℕ). take (i - 1) (listed g) ++ l) (listed_from i form one last)

  take_here : take i (listed g) ≡ take (i - 1) (listed g) ++ (get_or g i 0 ∷ [])
  take_here =
      ap (λ (j : ℕ). take j (listed g)) up ∙ take-suc (listed g) (i - 1) 0 inside
      ∙ ap (λ (x : ℕ). take (i - 1) (listed g) ++ (x ∷ []))
      (get_or-take (count g) (drop 1 g) (i - 1) 0 (omega arith) ∙ get_or-drop 1 g (i - 1) 0 ∙ ap (λ (j : ℕ). get_or g j 0) place)
    where
      up : i ≡ suc (i - 1)
      up = omega arith

      place : 1 + (i - 1) ≡ i
      place = omega arith

      inside : i - 1 < length (listed g)
      inside = omega (arith, length-take (count g) (drop 1 g), listed-fits form)

-- ---- the pass downward

-- the clusters from the largest down to the one behind the i-th are passed: k are counted, and the i that are left have the others within what is left of A
pub record Downward (g : List ℕ) (a k left i : ℕ) : Type 0 where
  pub place : i ≤ count g
  pub few : k + i ≤ count g
  pub counted : k + k_drawn (take i (listed g)) left ≡ k_drawn (listed g) a

pub down_start : (g : List ℕ) (a : ℕ) → Downward g a 0 a (count g)
down_start g a = record {
  place = omega arith;
  few = omega arith;
  counted = rw (take_all (count g) (listed g) (omega (arith, length-take (count g) (drop 1 g)))) (omega arith);
}

module _ {width : ℕ} {g : List ℕ} {a k left i : ℕ} (can : CountableFor width g) (now : Downward g a k left i) (more : 0 < i) where
  here_split : take i (listed g) ≡ take (i - 1) (listed g) ++ (get_or g i 0 ∷ [])
  here_split = take_here i can.valid.form (omega arith) now.place

  rises : Rising (take (i - 1) (listed g) ++ (get_or g i 0 ∷ []))
  rises = subst (λ (l : List ℕ). Rising l) here_split (rising_left (take i (listed g)) (drop i (listed g)) (rw take-append-drop can.valid.form.rising))

  in_all : {x : ℕ} → Among x (take (i - 1) (listed g) ++ (get_or g i 0 ∷ [])) → Among x (listed g)
  in_all {x} m = subst (λ (l : List ℕ). Among x l) (take-append-drop i (listed g))
      (Memᴰ.append_left (drop i (listed g)) (subst (λ (l : List ℕ). Among x l) (sym here_split) m))

  of_tree : Clusters (take (i - 1) (listed g) ++ (get_or g i 0 ∷ []))
  of_tree = record { some = λ x m. (can.valid.inside x (in_all m)).0; nested = λ x y m n. can.valid.nested x y (in_all m) (in_all n) }

  pub down_passed : within (get_or g i 0) left ≡ false → Downward g a k left (i - 1)
  down_passed e = record {
    place = omega (arith, now.place);
    few = omega (arith, now.few);
    counted =
        omega (
          arith,
          now.counted,
          ap (λ (l : List ℕ). k_drawn l left) here_split,
          last_passed (take (i - 1) (listed g)) (get_or g i 0) left rises of_tree (within-false (get_or g i 0) left e),
        );
  }

  pub down_taken : within (get_or g i 0) left ≡ true → Downward g a (k + 1) (left - get_or g i 0) (i - 1)
  down_taken e = record {
    place = omega (arith, now.place);
    few = omega (arith, now.few);
    counted =
        omega (
          arith,
          now.counted,
          ap (λ (l : List ℕ). k_drawn l left) here_split,
          last_taken (take (i - 1) (listed g)) (get_or g i 0) left rises of_tree (within-true (get_or g i 0) left e),
        );
  }

pub down_end : {g : List ℕ} {a k left i : ℕ} → Downward g a k left i → i ≤ 0 → k ≡ k_drawn (listed g) a
down_end {g} {a} {k} {left} {i} now done =
    let none : i ≡ 0 = omega arith in
    omega (arith, now.counted, ap (λ (j : ℕ). k_drawn (take j (listed g)) left) none, drawn_none left)

-- ---- the first that holds a set

-- none of the clusters before the i-th, counted from 1, holds b
pub record NoneHolds (g : List ℕ) (b i : ℕ) : Type 0 where
  pub first : 1 ≤ i
  pub place : i ≤ count g
  pub none : (z : ℕ) → Among z (take (i - 1) (listed g)) → Within b z → ⊥

pub holds_start : {width : ℕ} {g : List ℕ} (b : ℕ) → CountableFor width g → NoneHolds g b 1
holds_start b can = record {
  first = omega arith;
  place = (among-le-largest can.valid.form can.valid.all).0;
  none = λ z m w. Memᴰ.not-nil m;
}

module _ {width : ℕ} {g : List ℕ} {b i : ℕ} (can : CountableFor width g) (now : NoneHolds g b i) where
  pub holds_next : i < count g → within b (get_or g i 0) ≡ false → NoneHolds g b (i + 1)
  holds_next more e = record {
    first = omega arith;
    place = omega arith;
    none = λ z m w. go z w
        (Memᴰ.append_cases (take (i - 1) (listed g)) (subst (λ (l : List ℕ). Among z l) further m));
  }
    where
      same : i + 1 - 1 ≡ i
      same = omega arith

      further : take (i + 1 - 1) (listed g) ≡ take (i - 1) (listed g) ++ (get_or g i 0 ∷ [])
      further = ap (λ (j : ℕ). take j (listed g)) same ∙ take_here i can.valid.form now.first now.place

      go : (z : ℕ) → Within b z → Among z (take (i - 1) (listed g)) ⊎ Among z (get_or g i 0 ∷ []) → ⊥
      go z w (inl m) = now.none z m w
      go z w (inr m) = within-false b (get_or g i 0) e (subst (λ (y : ℕ). Within b y) (Memᴰ.eq_of_singleton m) w)

  pub holds-found : Within b (get_or g i 0) → SmallestHolder g b (get_or g i 0)
  holds-found w = record {
    among = listed_at i can.valid.form now.first now.place;
    holds = w;
    least = λ z m u. go z u (Memᴰ.append_cases (take (i - 1) (listed g)) (subst (λ (l : List ℕ). Among z l) split m));
  }
    where
      split : listed g ≡ take (i - 1) (listed g) ++ (get_or g i 0 ∷ drop (i + 1 - 1) (listed g))
      split = split_here i can.valid.form now.first now.place

      later : (z : ℕ) → (z ≡ get_or g i 0) ⊎ Among z (drop (i + 1 - 1) (listed g)) → get_or g i 0 ≤ z
      later z (inl e) = omega arith
      later z (inr m) =
          let rising = subst (λ (l : List ℕ). Rising l) split can.valid.form.rising in
          omega (arith, rising-below (drop (i + 1 - 1) (listed g)) (rising-behind (get_or g i 0) (take (i - 1) (listed g)) (drop (i + 1 - 1) (listed g)) rising) m)

      go : (z : ℕ) → Within b z → Among z (take (i - 1) (listed g)) ⊎ Among z (get_or g i 0 ∷ drop (i + 1 - 1) (listed g)) → get_or g i 0 ≤ z
      go z u (inl m) = absurd (now.none z m u)
      go z u (inr m) = later z (Memᴰ.cases_cons m)

  -- the last, where none before it does
  pub holds_last : count g ≤ i → Within b (largest g) → SmallestHolder g b (largest g)
  holds_last done w =
      let last : i ≡ count g = omega (arith, now.place) in
      let at : get_or g i 0 ≡ largest g = ap (λ (j : ℕ). get_or g j 0) last in
      subst (λ (y : ℕ). SmallestHolder g b y) at (holds-found (rw at w))
