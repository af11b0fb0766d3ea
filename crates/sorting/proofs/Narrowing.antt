-- The record of clusters of at most sixteen species as the front of their wide record: the 32 numbers there have sixteen bits each.
use Prim.Native.Nat.{ℕ, ◌≤◌, ◌<◌}
use mathlib.Core.Path.{◌≡◌, sym, ap, ◌∙◌, subst}
use mathlib.Core.List.{List}
use native.Mathlib.Omega.{arith}
use lib.ListN.{length, get_or, take, length-take}
use lib.Seq.{get_or-take}
use Rattle.trees.specs.Lists.{Among}
use Rattle.trees.specs.Records.{record_for, record_of}
use Rattle.trees.proofs.Places.{among_at}
use Rattle.trees.proofs.Recorded.{record_length, record_front, record_below}

module _ (n : ℕ) (cs : List ℕ) (few : n ≤ 31) where
  first_few : length (take n cs) ≤ 31
  first_few = omega (arith, length-take n cs)

  pub front_of_wide : take 32 (record_for 32 (take n cs)) ≡ record_of (take n cs)
  front_of_wide = record_front 16 32 (take n cs) (omega arith) (omega (arith, first_few))

  pub wide_enough :
      {wide : List ℕ} → ((k : ℕ) → k < n → get_or cs k 0 < 65536) → wide ≡ record_for 32 (take n cs)
      → (32 ≤ length wide) × ((i : ℕ) → get_or wide i 0 < 65536)
  wide_enough {wide} below is = (
    omega (arith, ap length is, record_length 32 (take n cs) (omega (arith, first_few))),
    λ i. subst (λ (l : List ℕ). get_or l i 0 < 65536) (sym is) (record_below 32 (take n cs) (omega (arith, first_few)) each i),
  )
    where
      each : (x : ℕ) → Among x (take n cs) → x < 65536
      each x m =
          let p = among_at 0 m in
          let early : p.place < n = omega (arith, p.before_end, length-take n cs) in
          subst (λ (y : ℕ). y < 65536) (sym (get_or-take n cs p.place 0 early) ∙ p.there) (below p.place early)
