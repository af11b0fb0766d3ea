-- The node of a cluster of a record as it is written: what is known between two children, and where it begins and ends.
use Prim.Native.Nat.{ℕ, ◌+◌, ◌-◌, ◌≤◌, ◌<◌}
use mathlib.Core.Path.{◌≡◌, sym, ap, ap₂}
use mathlib.Core.List.{List, [], ◌∷◌, ◌++◌, append-nil}
use native.Mathlib.Omega.{arith}
use Rattle.std.specs.Prelude.{Option}
use lib.ListN.{length, set, length-append}
use Rattle.clusters.specs.Sets.{Within, size, lowest}
use Rattle.clusters.proofs.Sets.{within-below}
use Rattle.clusters.proofs.Sizes.{size_some}
use Rattle.clusters.proofs.LowestSpecies.{lowest-below, single-lowest}
use Rattle.trees.specs.Tree.{cluster}
use Rattle.trees.specs.Records.{listed}
use Rattle.trees.specs.Drawn.{drawn}
use Rattle.trees.proofs.Children.{Hierarchy, hierarchy_of_valid, cluster-below}
use Rattle.trees.proofs.Drawing.{drawn-leaf}
use Rattle.texts.specs.Writing.{label, node_with}
use Rattle.printing.specs.Work.{Put}
use Rattle.texts.specs.Work.{name_in, names_in, note_in, cluster_text, Listed, ChildWith}
use Rattle.texts.proofs.TableNames.{names_at}
use Rattle.texts.proofs.Storing.{Going, going_all, going-put, going-byte, going_end}
use Rattle.texts.proofs.Childwise.{list_text, Rest, rest_all, rest-within, rest_none, rest_next}

-- part of the node of a is written
pub record Begun (counts : Option (List ℕ)) (table r : List ℕ) (a : ℕ) (out₀ : List ℕ) (at : ℕ) (out : List ℕ) (end left mark : ℕ) : Type 0 where
  pub todo : List ℕ
  pub rest : Rest (note_in counts r) (names_in 32 table) (listed r) a left mark todo
  pub going : Going out₀ at (cluster_text counts table r a) out end todo

-- the next child can be written, and that goes on
pub record Onward (counts : Option (List ℕ)) (table r : List ℕ) (a : ℕ) (out₀ : List ℕ) (at : ℕ) (out : List ℕ) (end left mark x : ℕ) : Type 0 where
  pub listed : Listed r x
  pub smaller : size x < size a
  pub some : 1 ≤ x
  pub most : x ≤ left
  pub room : end + 1 + length (cluster_text counts table r x) ≤ at + length (cluster_text counts table r a)
  pub then :
      (end' : ℕ) (out' : List ℕ) → Put (set out end mark) (end + 1) (cluster_text counts table r x) end' out'
      → Begun counts table r a out₀ at out' end' (left - x) 44

module _ {r : List ℕ} {a : ℕ} (h : Listed r a) where
  tree : Hierarchy h.all (listed r)
  tree = hierarchy_of_valid h.valid (let b = h.sixteen in omega arith)

  -- ---- a single species

  pub lowest-sixteen : lowest a < 16
  lowest-sixteen =
      lowest-below 16 (h.valid.inside a h.among).0 (cluster-below tree h.among)
      (within-below h.all 16 (h.valid.inside a h.among).1 (let b = h.sixteen in omega arith))

  pub leaf-text : (counts : Option (List ℕ)) (table : List ℕ) → size a ≡ 1 → cluster_text counts table r a ≡ label (name_in table (lowest a)) ++ note_in counts r a
  unfolding cluster_text node_with cluster
  leaf-text counts table e =
      let l = lowest-sixteen in
      rw (drawn-leaf (listed r) a e)
      (ap₂ (λ (w : List ℕ) (b : ℕ). label w ++ note_in counts r b) (names_at 32 table (lowest a) (omega arith))
      (sym (single-lowest (cluster-below tree h.among) e)))

  -- ---- more than one

  pub two_species : (size a ≡ 1 → ⊥) → 2 ≤ size a
  two_species n = let s = size_some (h.valid.inside a h.among).0 in omega arith

  module _ (counts : Option (List ℕ)) (table out₀ : List ℕ) (at : ℕ) where
    pub begun_all : (size a ≡ 1 → ⊥) → Begun counts table r a out₀ at out₀ at a 40
    unfolding cluster_text
    begun_all n = record {
      todo = cluster_text counts table r a;
      rest = rest_all tree (note_in counts r) (names_in 32 table) h.among n;
      going = going_all out₀ at (cluster_text counts table r a);
    }

    module _ {out : List ℕ} {end left mark : ℕ} (b : Begun counts table r a out₀ at out end left mark) where
      pub begun-within : Within left a
      begun-within = rest-within tree (note_in counts r) (names_in 32 table) h.among b.rest

      pub begun-room : end < at + length (cluster_text counts table r a)
      begun-room =
          let e = b.going.ends in
          let l = ap length b.rest.text in
          let k = length-append (list_text (note_in counts r) (names_in 32 table) (λ c. drawn (listed r) c) mark b.rest.ahead) (41 ∷ note_in counts r a) in
          omega arith

      pub begun_next : {x : ℕ} → 1 ≤ left → ChildWith r a (lowest left) x → Onward counts table r a out₀ at out end left mark x
      unfolding cluster_text
      begun_next {x} some c =
          let n = rest_next tree (note_in counts r) (names_in 32 table) h.among b.rest some c.child c.holds in
          let e = b.going.ends in
          let l = ap length n.text in
          let k = length-append (node_with (note_in counts r) (names_in 32 table) (drawn (listed r) x)) n.later in
          record {
            listed = record { all = h.all; sixteen = h.sixteen; valid = h.valid; among = n.among };
            smaller = n.smaller;
            some = n.some;
            most = n.most;
            room = omega arith;
            then = λ end' out' p. record { todo = n.later; rest = n.rest; going = going-put n.later (going-byte (rw n.text at b.going)) p };
          }

      -- the closing parenthesis is written: the note is left, and has room
      pub begun-closed : left ≡ 0 → Going out₀ at (cluster_text counts table r a) (set out end 41) (end + 1) (note_in counts r a)
      begun-closed z = going-byte (rw (rest_none tree (note_in counts r) (names_in 32 table) h.among b.rest z) at b.going)

      pub begun_end :
          {end' : ℕ} {out' : List ℕ} → left ≡ 0 → Put (set out end 41) (end + 1) (note_in counts r a) end' out' → Put out₀ at (cluster_text counts table r a) end' out'
      begun_end z p = going_end (going-put [] (rw (sym (append-nil (note_in counts r a))) at (begun-closed z)) p)
