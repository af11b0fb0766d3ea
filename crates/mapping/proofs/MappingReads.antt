-- What reading all lines comes to, way by way.
use Prim.Native.Nat.{ℕ, ◌+◌, ◌-◌, ◌≤◌, ◌<◌}
use native.Mathlib.Nat.{not-suc-le-zero}
use native.Mathlib.Decide.{dec_lt}
use native.Mathlib.Omega.{arith}
use native.Mathlib.Numerals.{add-one}
use mathlib.Core.Path.{◌≡◌, refl, sym, ap, subst, ◌∙◌}
use mathlib.Core.List.{List, ◌++◌, map}
use lib.ListN.{length, get_or, set, replicate, length-append, length-replicate, length-set, get_or-replicate, get_or-append}
use lib.Seq.{ext_get_or, get_or-set_same, get_or-set_other, get_or-append-add}
use Rattle.std.proofs.Common.{Result, Ok, Err}
use Rattle.faults.specs.declared.Refusal.{Refusal}
use Rattle.clusters.specs.Sets.{whole, union}
use Rattle.trees.specs.Lists.{up_to}
use Rattle.trees.proofs.UpTo.{length-map-up_to, map-up_to}
use Rattle.roster.specs.Roster.{names}
use Rattle.mapping.specs.Mapping.{named_in}
use Rattle.mapping.specs.Groups.{set_of, groups}
use Rattle.mapping.specs.Work.{OfRoster, Reads, Onward, Heading, Listing, HeadRead, Listed, GroupRead, GroupsRead}
use Rattle.mapping.specs.declared.lines.Individuals.{Individuals}
use Rattle.mapping.proofs.Naming.{in_over}
use Rattle.mapping.proofs.LineReads.{refused_at}
use Rattle.mapping.proofs.Walks.{heading_first, stands-beyond, leaves-out, ends_good}

-- i lines were read, up to `at`: these individuals are taken, and the first i numbers found are the lines' sets
pub record Passing (species individuals : List (List ℕ)) (text found : List ℕ) (taken at i : ℕ) : Type 0 where
  pub heading : Heading species individuals text i at taken
  pub are : (k : ℕ) → k < i → get_or found k 0 ≡ set_of (named_in individuals text k at)

-- so for the names of whatever rosters the tables have; the numbers behind those sets are zeros
pub record Passed (held : List ℕ) (n : ℕ) (tokens : List ℕ) (m : ℕ) (text found : List ℕ) (taken at i : ℕ) : Type 0 where
  pub within : at ≤ length text
  pub few : i ≤ n
  pub sized : length found ≡ 16
  pub zeros : (k : ℕ) → i ≤ k → k < 16 → get_or found k 0 ≡ 0
  pub passes : (line individuals : List ℕ) → OfRoster 16 line n held → OfRoster 32 individuals m tokens → Passing (names line) (names individuals) text found taken at i

pub passed_none : (held : List ℕ) (n : ℕ) (tokens : List ℕ) (m : ℕ) (text : List ℕ) → Passed held n tokens m text (replicate 16 0) 0 0 0
passed_none held n tokens m text =
    record {
      within = omega arith;
      few = omega arith;
      sized = length-replicate {A = ℕ} 16 0;
      zeros = λ k l h. get_or-replicate 16 k 0 0 h;
      passes = λ line individuals of ofs. record { heading = heading_first (names line) (names individuals) text; are = λ k h. absurd (not-suc-le-zero h) };
    }

module _ (held : List ℕ) (n : ℕ) (tokens : List ℕ) (m : ℕ) (text found : List ℕ) (taken at i : ℕ) (so : Passed held n tokens m text found taken at i) where
  -- ---- one line more

  module _ (less : i < n) (h : Result ℕ Refusal) (says : HeadRead held n i text at h) where
    head-told : (line individuals : List ℕ) → OfRoster 16 line n held → OfRoster 32 individuals m tokens
        → Reads (names line) (names individuals) text (λ next. Listing (names line) (names individuals) text i next taken 0) h
    unfolding HeadRead
    head-told line individuals of ofs = says.1 line (names individuals) taken of less (so.passes line individuals of ofs).heading

    pub head-refused : (e : Refusal) → h ≡ Err e → GroupsRead held n tokens m text (Err e)
    unfolding GroupsRead
    head-refused e is line individuals of ofs =
        subst (Reads (names line) (names individuals) text (λ next. Listing (names line) (names individuals) text i next taken 0)) is (head-told line individuals of ofs)

    pub head_onward : (next : ℕ) → h ≡ Ok next → (at < next) × (next ≤ length text)
    unfolding HeadRead
    head_onward next is = subst (Onward (λ next. next) text at) is says.0

    module _ (next : ℕ) (is : h ≡ Ok next) (g : Result Individuals Refusal) (lists : GroupRead tokens m text next taken g) where
      group-told : (line individuals : List ℕ) → OfRoster 16 line n held → OfRoster 32 individuals m tokens
          → Reads (names line) (names individuals) text (λ s. Listed (names line) (names individuals) text i s.next taken s.set) g
      unfolding GroupRead
      group-told line individuals of ofs =
          lists.1 (names line) individuals i ofs
          (subst (Reads (names line) (names individuals) text (λ p. Listing (names line) (names individuals) text i p taken 0)) is (head-told line individuals of ofs))

      pub group-refused : (e : Refusal) → g ≡ Err e → GroupsRead held n tokens m text (Err e)
      unfolding GroupsRead
      group-refused e at_fault_lem line individuals of ofs =
          subst (Reads (names line) (names individuals) text (λ s. Listed (names line) (names individuals) text i s.next taken s.set)) at_fault_lem
          (group-told line individuals of ofs)

      pub passed_more : (s : Individuals) → g ≡ Ok s → n ≤ 16 → (all : ℕ) → all ≡ union taken s.set → Passed held n tokens m text (set found i s.set) all s.next (i + 1)
      unfolding GroupRead
      passed_more s reads room all is_all =
          let first = head_onward next is in
          let last = subst (Onward (λ s. s.next) text next) reads lists.0 in
          let size = so.sized in
          record {
            within = last.1;
            few = omega arith;
            sized = length-set found i s.set ∙ so.sized;
            zeros = λ k l b. get_or-set_other found i k s.set 0 (λ e. absurd (omega arith)) ∙ so.zeros k (omega arith) b;
            passes = λ line individuals of ofs.
                let p = so.passes line individuals of ofs in
                let l = subst (Reads (names line) (names individuals) text (λ s. Listed (names line) (names individuals) text i s.next taken s.set)) reads (group-told line individuals of ofs) in
                record {
                  heading = rw (add-one i, is_all) l.heading;
                  are = λ k b. by line individuals p l (omega arith) k b (dec_lt k i);
                };
          }
        where
          by : (line individuals : List ℕ) (p : Passing (names line) (names individuals) text found taken at i)
              (l : Listed (names line) (names individuals) text i s.next taken s.set) → at ≤ s.next → (k : ℕ) → k < i + 1 → Dec (k < i)
              → get_or (set found i s.set) k 0 ≡ set_of (named_in (names individuals) text k s.next)
          by line individuals p l onwards k b (yes before) =
              let c = p.heading.begun.counted in
              get_or-set_other found i k s.set 0 (λ e. absurd (omega arith)) ∙ p.are k before
              ∙ ap set_of (sym (in_over (names individuals) text k at s.next onwards (omega arith)))
          by line individuals p l onwards k b (no o) =
              let same : i ≡ k = omega arith in
              let size = so.sized in
              let f = so.few in
              subst (λ (j : ℕ). get_or (set found i s.set) j 0 ≡ set_of (named_in (names individuals) text j s.next)) same
              (get_or-set_same found i s.set 0 (omega arith) ∙ l.grouped)

  -- ---- all lines

  module _ (all : n ≤ i) where
    last : (line individuals : List ℕ) → OfRoster 16 line n held → OfRoster 32 individuals m tokens
        → Heading (names line) (names individuals) text (length (names line)) at taken
    last line individuals of ofs =
        let f = so.few in
        let c = of.counted in
        let e : i ≡ length (names line) = omega arith in
        rw e at (so.passes line individuals of ofs).heading

    pub lines-beyond : at < length text → GroupsRead held n tokens m text (Err (refused_at at))
    unfolding GroupsRead
    lines-beyond here line individuals of ofs =
        record { faulty = refl; first = stands-beyond (names line) (names individuals) text at taken (last line individuals of ofs) here }

    module _ (over : length text ≤ at) (full : ℕ) (is-full : full ≡ whole m) where
      at_end : at ≡ length text
      at_end = let w = so.within in omega arith

      whole_is : (individuals : List ℕ) → OfRoster 32 individuals m tokens → full ≡ whole (length (names individuals))
      whole_is individuals ofs = is-full ∙ ap whole ofs.counted

      pub lines-leave-out : (taken ≡ full → ⊥) → GroupsRead held n tokens m text (Err (refused_at at))
      unfolding GroupsRead
      lines-leave-out other line individuals of ofs =
          record {
            faulty = refl;
            first = leaves-out (names line) (names individuals) text at taken (last line individuals of ofs) at_end (λ e. other (e ∙ sym (whole_is individuals ofs)));
          }

      -- the sets of a good mapping
      module _ (line individuals : List ℕ) (of : OfRoster 16 line n held) (ofs : OfRoster 32 individuals m tokens) (room : n ≤ 16) where
        abbrev sets : List ℕ
        sets = map (λ k. set_of (named_in (names individuals) text k (length text))) (up_to (length (names line)))

        sets-length : length sets ≡ length (names line)
        sets-length = length-map-up_to (λ k. set_of (named_in (names individuals) text k (length text))) (length (names line))

        sets-are : found ≡ sets ++ replicate (16 - length (names line)) 0
        sets-are =
            let c = of.counted in
            let l = sets-length in
            let size = so.sized in
            let long : length (sets ++ replicate (16 - length (names line)) 0) ≡ 16 =
            length-append sets (replicate (16 - length (names line)) 0) ∙ rw (sets-length, length-replicate {A = ℕ}) (omega arith) in
            ext_get_or 0 found (sets ++ replicate (16 - length (names line)) 0) (size ∙ sym long) (λ k h. by k (rw size at h) (dec_lt k (length (names line))))
          where
            by : (k : ℕ) → k < 16 → Dec (k < length (names line)) → get_or found k 0 ≡ get_or (sets ++ replicate (16 - length (names line)) 0) k 0
            by k h (yes less) =
                let l = sets-length in
                let c = of.counted in
                (so.passes line individuals of ofs).are k (omega arith) ∙ ap (λ (p : ℕ). set_of (named_in (names individuals) text k p)) at_end
                ∙ sym (map-up_to (λ j. set_of (named_in (names individuals) text j (length text))) (length (names line)) k less)
                ∙ sym (get_or-append sets (replicate (16 - length (names line)) 0) 0 k (omega arith))
            by k h (no more) =
                let l = sets-length in
                let c = of.counted in
                let f = so.few in
                let e : k ≡ length sets + (k - length (names line)) = omega arith in
                so.zeros k (omega arith) h ∙ sym (get_or-replicate (16 - length (names line)) (k - length (names line)) 0 0 (omega arith))
                ∙ sym (get_or-append-add sets (replicate (16 - length (names line)) 0) (k - length (names line)) 0)
                ∙ ap (λ (j : ℕ). get_or (sets ++ replicate (16 - length (names line)) 0) j 0) (sym e)

      pub lines-good : n ≤ 16 → taken ≡ full → GroupsRead held n tokens m text (Ok found)
      unfolding GroupsRead groups
      lines-good room same line individuals of ofs =
          record {
            clean = ends_good (names line) (names individuals) text at taken (last line individuals of ofs) at_end (same ∙ whole_is individuals ofs);
            are = sets-are line individuals of ofs room;
          }
