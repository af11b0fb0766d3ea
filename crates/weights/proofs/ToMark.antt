-- The clusters that are marked for a gene record: they are below the bytes that are lent, and exactly those that it shows.
use Prim.Native.Nat.{ℕ, suc, ◌+◌, ◌-◌, ◌≤◌, ◌<◌}
use mathlib.Core.Path.{◌≡◌, refl, ap, ◌∙◌, subst}
use mathlib.Core.Logic.{◌⊎◌, inl, inr}
use mathlib.Core.List.Memᴰ
use mathlib.Core.List.Memᴰ.{head as here}
use mathlib.Core.List.Memᴰ.{tail as there}
use mathlib.Core.List.{List, [], ◌∷◌, ◌++◌, map}
use native.Mathlib.Decide.{dec_lt}
use native.Mathlib.Omega.{arith}
use lib.ListN.{take, drop, get_or}
use lib.Seq.{take-suc, get_or-drop}
use Rattle.trees.specs.Lists.{Among}
use Rattle.trees.specs.Records.{count, listed, largest, Form}
use Rattle.trees.specs.Valid.{among}
use Rattle.trees.proofs.Listing.{none_twice_parts}
use Rattle.trees.proofs.Order.{rising_none_twice}
use Rattle.trees.proofs.ValidTest.{tells_among}
use Rattle.trees.proofs.Redrawing.{Complement}
use Rattle.trees.proofs.GeneRecords.{largest-among, among-le-largest}
use Rattle.weights.specs.Count.{shown_by, unrooted_clusters}
use Rattle.weights.specs.Work.{Markable, complements, to_mark}
use Rattle.weights.specs.declared.Rooting.{Rooting}
use Rattle.weights.specs.declared.Rooting.TheVariants.{Rooted, Unrooted}
use Rattle.weights.proofs.Joining.{tells_same}
use Rattle.weights.proofs.Checked.{listed-fits, first_from, first_none}
use Rattle.weights.proofs.UnrootedClusters.{OfUnrooted, among_unrooted, unrooted_among}

-- ---- what a function makes of a list

among-map : (f : ℕ → ℕ) {x : ℕ} (l : List ℕ) → Among x (map f l) → (y : ℕ) × Among y l × (x ≡ f y)
among-map f [] m = absurd (Memᴰ.not-nil m)
among-map f {x} (y ∷ l) m = go (Memᴰ.cases_cons m) (λ k. among-map f l k)
  where
    go : (x ≡ f y) ⊎ Among x (map f l) → (Among x (map f l) → (z : ℕ) × Among z l × (x ≡ f z)) → (z : ℕ) × Among z (y ∷ l) × (x ≡ f z)
    go (inl e) later = (y, here refl, e)
    go (inr k) later = let z = later k in (z.0, there z.1, z.2)

map-among : (f : ℕ → ℕ) {x y : ℕ} (l : List ℕ) → Among y l → x ≡ f y → Among x (map f l)
map-among f [] m e = absurd (Memᴰ.not-nil m)
map-among f {x} {y} (z ∷ l) m e = go (Memᴰ.cases_cons m) (λ k. map-among f l k e)
  where
    go : (y ≡ z) ⊎ Among y l → (Among y l → Among x (map f l)) → Among x (map f (z ∷ l))
    go (inl d) later = here (e ∙ ap f d)
    go (inr k) later = there (later k)

-- ---- the clusters before the last

module _ {g : List ℕ} (form : Form g) where
  -- all clusters are those before the last and the last
  pub before_last : 1 ≤ count g → listed g ≡ take (count g - 1) (drop 1 g) ++ (largest g ∷ [])
  before_last some =
      ap (λ (k : ℕ). take k (drop 1 g)) whole ∙ take-suc (drop 1 g) (count g - 1) 0 (omega (arith, listed-fits form))
      ∙ ap (λ (x : ℕ). take (count g - 1) (drop 1 g) ++ (x ∷ [])) (get_or-drop 1 g (count g - 1) 0 ∙ ap (λ (k : ℕ). get_or g k 0) end)
    where
      whole : count g ≡ suc (count g - 1)
      whole = omega arith

      end : 1 + (count g - 1) ≡ count g
      end = omega arith

  -- the complements are those of all clusters but the whole
  pub complement_of : {x : ℕ} → Among x (complements g) → Complement (largest g) (listed g) x
  unfolding complements
  complement_of {x} m =
      let y = among-map (λ y. largest g - y) (take (count g - 1) (drop 1 g)) m in
      let split = before_last (listing y.1 (dec_lt 0 (count g))) in
      record {
        of = y.0;
        among = rw split (Memᴰ.append_left (largest g ∷ []) y.1);
        other = λ e. none_twice_parts (take (count g - 1) (drop 1 g)) (largest g ∷ []) (rw split at (rising_none_twice (listed g) form.rising)) y.0 y.1 (here e);
        is = y.2;
      }
    where
      listing : {y : ℕ} → Among y (take (count g - 1) (drop 1 g)) → Dec (0 < count g) → 1 ≤ count g
      listing k (yes l) = omega arith
      listing {y} k (no f) =
          let none : count g - 1 ≡ 0 = omega (arith, f) in
          absurd (Memᴰ.not-nil (subst (λ (j : ℕ). Among y (take j (drop 1 g))) none k))

  -- and each of these is one of them
  pub of_complement : {x : ℕ} → Complement (largest g) (listed g) x → Among x (complements g)
  unfolding complements
  of_complement {x} c = map-among (λ y. largest g - y) (take (count g - 1) (drop 1 g)) (go (Memᴰ.append_cases (take (count g - 1) (drop 1 g)) split)) c.is
    where
      split : Among c.of (take (count g - 1) (drop 1 g) ++ (largest g ∷ []))
      split = rw (before_last (among-le-largest form c.among).0) at c.among

      go : Among c.of (take (count g - 1) (drop 1 g)) ⊎ Among c.of (largest g ∷ []) → Among c.of (take (count g - 1) (drop 1 g))
      go (inl m) = m
      go (inr m) = absurd (c.other (Memᴰ.eq_of_singleton m))

-- ---- what is marked

-- each is below the bytes that are lent
pub to_mark_below : (rooting : Rooting) {bytes : ℕ} {g : List ℕ} → Markable bytes g → (x : ℕ) → Among x (to_mark rooting g) → x < bytes
to_mark_below Rooted can x m = can.below x m
to_mark_below Unrooted {bytes} {g} can x m = go (Memᴰ.append_cases (listed g) m)
  where
    go : Among x (listed g) ⊎ Among x (complements g) → x < bytes
    go (inl k) = can.below x k
    go (inr k) =
        let c = complement_of can.form k in
        let whole = can.below (largest g) (largest-among can.form (among-le-largest can.form c.among).0) in
        omega (arith, c.is)

-- and they are those that the gene tree shows
pub to_mark_shown : (rooting : Rooting) {g : List ℕ} → Form g → (a : ℕ) → among a (to_mark rooting g) ≡ among a (shown_by rooting g)
to_mark_shown Rooted form a = refl
to_mark_shown Unrooted {g} form a =
    tells_same (tells_among a (listed g ++ complements g)) (tells_among a (unrooted_clusters g)) (λ m. unrooted_among g form (to (Memᴰ.append_cases (listed g) m)))
    (λ m. from (among_unrooted g m))
  where
    to : Among a (listed g) ⊎ Among a (complements g) → OfUnrooted g a
    to (inl m) = inl m
    to (inr m) = inr (complement_of form m)

    from : OfUnrooted g a → Among a (listed g ++ complements g)
    from (inl m) = Memᴰ.append_left (complements g) m
    from (inr c) = Memᴰ.append_right (listed g) (of_complement form c)

-- ---- one complement after the other

-- the complements from that of the i-th cluster on, counted from 1
unfoldable pub complements_from : ℕ → List ℕ → List ℕ
complements_from i g = map (λ x. largest g - x) (drop (i - 1) (take (count g - 1) (drop 1 g)))

pub complements_first : (g : List ℕ) → complements_from 1 g ≡ complements g
unfolding complements_from complements
complements_first g = refl

pub complements_next : {g : List ℕ} (i : ℕ) → Form g → 1 ≤ i → i < count g → complements_from i g ≡ (largest g - get_or g i 0) ∷ complements_from (i + 1) g
unfolding complements_from
complements_next {g} i form one less = ap (map (λ x. largest g - x)) (first_from (count g - 1) i form (omega arith) one (omega arith))

pub complements_end : (g : List ℕ) (i : ℕ) → 1 ≤ i → count g ≤ i → complements_from i g ≡ []
unfolding complements_from
complements_end g i one past = ap (map (λ x. largest g - x)) (first_none g (count g - 1) i (omega arith))
