-- The child of a cluster that holds a species: of the clusters properly within it that hold the species the largest, and the last in the record.
use Prim.Native.Nat.{ℕ, zero, suc, ◌+◌, ◌-◌, ◌^◌, ◌≤◌, ◌<◌}
use mathlib.Core.Path.{◌≡◌, refl, sym, ap, ◌∙◌, subst}
use mathlib.Core.Bool.{Bool, true, false, cond, ◌&&◌, true≢false, false≢true}
use mathlib.Core.List.{List, [], ◌∷◌, ◌++◌, reverse}
use native.Mathlib.Decide.{ℕ_discrete}
use native.Mathlib.Omega.{arith}
use lib.ListN.{get_or, take, drop, length-drop}
use lib.Seq.{take-suc, get_or-drop}
use Rattle.std.specs.Prelude.{Option, Some, unwrap_or}
use Rattle.std.specs.List.{find}
use Rattle.std.proofs.lemmas.List.{reverse-append}
use Rattle.clusters.specs.Sets.{Has, Within, single, within, size, lowest}
use Rattle.clusters.proofs.Members.{has_of_within, has-below, single-has}
use Rattle.clusters.proofs.Sets.{within-le, within-true, true-within, single-within, within-below}
use Rattle.clusters.proofs.Sizes.{size-single}
use Rattle.clusters.proofs.LowestSpecies.{lowest-has}
use Rattle.trees.specs.Lists.{Among}
use Rattle.trees.specs.Records.{count, listed}
use Rattle.trees.specs.Drawn.{properly}
use Rattle.trees.proofs.Places.{place-among, among-place}
use Rattle.trees.proofs.Present.{has_of_single}
use Rattle.trees.proofs.Children.{properly-true, true-properly, children-among}
use Rattle.trees.proofs.GeneRecords.{places-le}
use Rattle.texts.specs.Work.{Listed, ChildWith}

-- x is listed, lies properly within a, and holds the species i
pub record Inner (r : List ℕ) (a i x : ℕ) : Type 0 where
  pub among : Among x (listed r)
  pub inside : Within x a
  pub other : x ≡ a → ⊥
  pub holds : Has x i

-- x is one of these, and none of the first places holds a larger one
pub record Largest (r : List ℕ) (a i x places : ℕ) : Type 0 where
  pub inner : Inner r a i x
  pub most : (k : ℕ) → 1 ≤ k → k < places → Inner r a i (get_or r k 0) → get_or r k 0 ≤ x

module _ {r : List ℕ} {a : ℕ} (h : Listed r a) where
  module _ (left : ℕ) (some : 1 ≤ left) (part : Within left a) (two : 2 ≤ size a) where
    cluster-sixteen : a < 2 ^ 32
    cluster-sixteen = within-below h.all 32 (h.valid.inside a h.among).1 (let b = h.sixteen in omega arith)

    left_has : Has left (lowest left)
    left_has = lowest-has some (within-below a 32 part cluster-sixteen)

    pub lowest_thirty_two : lowest left < 32
    lowest_thirty_two = has-below 32 (within-below a 32 part cluster-sixteen) left_has

    cluster-has : Has a (lowest left)
    cluster-has = has_of_within left a (lowest left) part left_has

    -- the species by itself is one
    pub single-largest : Largest r a (lowest left) (single (lowest left)) 1
    single-largest = record {
      inner = record {
        among = h.valid.singles (lowest left) (has_of_within a h.all (lowest left) (h.valid.inside a h.among).1 cluster-has);
        inside = single-within a (lowest left) cluster-has;
        other = λ e. let s = size-single (lowest left) in let t = ap size e in omega arith;
        holds = single-has (lowest left);
      };
      most = λ k one less i. absurd (omega arith);
    }

  module _ {i x places : ℕ} (l : Largest r a i x places) where
    -- the largest of all listed ones is the child
    pub largest-child : count r < places → ChildWith r a i x
    largest-child all = record {
      child = children-among (listed r) a (record {
        among = l.inner.among;
        inside = l.inner.inside;
        other = l.inner.other;
        greatest = λ y m w n v. above y m w n v;
      });
      holds = l.inner.holds;
    }
      where
        above : (y : ℕ) → Among y (listed r) → Within y a → (y ≡ a → ⊥) → Within x y → x ≡ y
        above y m w n v =
            let f = h.valid.form in
            let p = among-place r (count r) f.sized f.counted y m in
            let q : Inner r a i y = record { among = m; inside = w; other = n; holds = has_of_within x y i v l.inner.holds } in
            let b = l.most p.place p.first (let d = p.last in omega arith) (subst (λ (z : ℕ). Inner r a i z) (sym p.there) q) in
            let c = within-le v in
            let e = p.there in
            omega arith

    module _ (one : 1 ≤ places) (last : places ≤ count r) where
      -- the next place holds one: it is the largest so far
      pub larger_next : {c s : ℕ} → s ≡ single i → c ≡ get_or r places 0 → (properly c a && within s c) ≡ true → Largest r a i c (places + 1)
      larger_next {c} {s} d e t = record {
        inner = record {
          among = subst (λ (z : ℕ). Among z (listed r)) (sym e) (place-among r (count r) h.valid.form.sized h.valid.form.counted places one last);
          inside = p.0;
          other = p.1;
          holds = has_of_single c i (rw d at (within-true s c (both (properly c a) t).1));
        };
        most = λ k first less inner. upto k first (omega arith);
      }
        where
          both : (u : Bool) → (u && within s c) ≡ true → (u ≡ true) × (within s c ≡ true)
          both true q = (refl, q)
          both false q = absurd (false≢true q)

          p : Within c a × (c ≡ a → ⊥)
          p = properly-true c a (both (properly c a) t).0

          upto : (k : ℕ) → 1 ≤ k → k ≤ places → get_or r k 0 ≤ c
          upto k first le = omega (arith, places-le k places h.valid.form first le last)

      -- the next place holds none
      pub largest_next : {c s : ℕ} → s ≡ single i → c ≡ get_or r places 0 → (properly c a && within s c) ≡ false → Largest r a i x (places + 1)
      largest_next {c} {s} d e f = record {
        inner = l.inner;
        most = λ k first less inner. upto k first less inner (ℕ_discrete k places);
      }
        where
          upto : (k : ℕ) → 1 ≤ k → k < places + 1 → Inner r a i (get_or r k 0) → Dec (k ≡ places) → get_or r k 0 ≤ x
          upto k first less inner (no n) = l.most k first (omega arith) inner
          upto k first less inner (yes q) =
              let same : get_or r k 0 ≡ c = ap (λ (n : ℕ). get_or r n 0) q ∙ sym e in
              let w = true-properly c a (subst (λ (z : ℕ). Within z a) same inner.inside) (λ q. inner.other (same ∙ q)) in
              let v = true-within s c (rw d (single-within c i (subst (λ (z : ℕ). Has z i) same inner.holds))) in
              let t : (properly c a && within s c) ≡ true = rw (w, v) in
              absurd (true≢false (sym t ∙ f))

  -- the last of the first k listed clusters that passes, or else the species by itself, is the largest of them
  module _ {i s : ℕ} (alone : s ≡ single i) (first : Largest r a i (single i) 1) where
    abbrev test : ℕ → Bool
    test c = properly c a && within s c

    abbrev last_of : List ℕ → ℕ
    last_of l = unwrap_or (find test (reverse l)) s

    largest_last : (k : ℕ) → k ≤ count r → Largest r a i (last_of (take k (drop 1 r))) (k + 1)
    largest_last zero most = rw alone first
    largest_last (suc k) most = rw (here, reverse-append) (go (test c) refl (largest_last k (omega arith)))
      where
        c : ℕ
        c = get_or (drop 1 r) k 0

        before : List ℕ
        before = take k (drop 1 r)

        here : take (suc k) (drop 1 r) ≡ before ++ (c ∷ [])
        here = take-suc (drop 1 r) k 0 (let f = h.valid.form in omega (arith, f.sized, f.counted, length-drop 1 r))

        place : c ≡ get_or r (k + 1) 0
        place = get_or-drop 1 r k 0 ∙ ap (λ (n : ℕ). get_or r n 0) (omega arith)

        one-more : suc k + 1 ≡ k + 1 + 1
        one-more = omega arith

        go :
            (t : Bool) → test c ≡ t → Largest r a i (last_of before) (k + 1)
            → Largest r a i (unwrap_or (cond t (Some c) (find test (reverse before))) s) (suc k + 1)
        go true e l = rw one-more (larger_next l (omega arith) (omega arith) alone place e)
        go false e l = rw one-more (largest_next l (omega arith) (omega arith) alone place e)

    -- so the last one of all is the child
    pub last-child :
        {m x : ℕ} {found : Option ℕ} → m ≡ count r → found ≡ find test (reverse (take (m + 1 - 1) (drop 1 r))) → x ≡ unwrap_or found s
        → ChildWith r a i x
    last-child {m} d e f =
        let all : m + 1 - 1 ≡ count r = omega arith in
        rw (f, e, all) (largest-child (largest_last (count r) (omega arith)) (omega arith))
