-- The rules for what is kept before a place: a later place allows less, what is strict is kept, and what is kept and ends before the place is strict.
use mathlib.Core.Bool.{Bool}
use Prim.Native.Nat.{ℕ, zero, suc, ◌+◌, ◌-◌, ◌≤◌, max, zero-le}
use native.Mathlib.Omega.{arith}
use mathlib.Core.Path.{◌≡◌, refl, sym, ap, ◌∙◌}
use mathlib.Core.List.{List, [], ◌∷◌, ◌++◌, append_assoc}
use lib.ListN.{length, take, drop, length-append, length-take, length-drop}
use lib.Seq.{take-add}
use Rattle.labels.specs.Bytes.{next_is, next_bare}
use Rattle.labels.specs.Spelling.{Spells}
use Rattle.labels.specs.Labels.{label_bytes, letters}
use Rattle.labels.proofs.RunRules.{run-splits}
use Rattle.labels.proofs.Spelled.{spells_shorter}
use Rattle.labels.proofs.Cut.{letters_grow, whole_letters, part-letters}
use Rattle.trees.specs.Tree.{Tree, Forest}
use Rattle.trees.specs.Tree.Tree.{leaf, node}
use Rattle.roster.specs.Roster.{byte_before}
use Rattle.nodes.specs.Grammar.{Rules, strict, Blanks, Number, ColonNumber, Numbers, Inner, Node, Children, Text}
use Rattle.nodes.specs.Grammar.Blanks.{none, blank}
use Rattle.nodes.specs.Grammar.Number.{whole, decimal}
use Rattle.nodes.specs.Grammar.ColonNumber.{colon}
use Rattle.nodes.specs.Grammar.Numbers.{nothing, distance, both, support}
use Rattle.nodes.specs.Grammar.Inner.{nameless, named}
use Rattle.nodes.specs.Grammar.Node.{a_leaf, an_inner, a_single}
use Rattle.nodes.specs.Grammar.Children.{the_last, with_more}
use Rattle.nodes.specs.Grammar.Text.{text}
use Rattle.nodes.specs.Deciding.{next_digit, GoesOnAlike}
use Rattle.nodes.proofs.Derivations.{Steps, over_node, over_children}
use Rattle.meanings.specs.Meaning.{part_before, kept_to, Kept}

-- ---- what is left of a text is no longer

blanks_shorter : {s rest : List ℕ} → Blanks s rest → length rest ≤ length s
blanks_shorter none = omega arith
blanks_shorter (blank is d) = let l = blanks_shorter d in omega arith

pub number-splits : {w s rest : List ℕ} → Number w s rest → s ≡ w ++ rest
number-splits (whole r) = run-splits r
number-splits (decimal {v = v} {w = w} {rest = rest} r r') =
    run-splits r ∙ (ap (λ (l : List ℕ). v ++ 46 ∷ l) (run-splits r') ∙ sym (append_assoc v (46 ∷ w) rest))

pub number_size : {w s rest : List ℕ} → Number w s rest → length s ≡ length w + length rest
number_size {w} {rest = rest} n = ap length (number-splits n) ∙ length-append w rest

-- ---- rules that take all that others take, of what leaves at least m bytes

pub record Takes (m : ℕ) (R R' : Rules) : Type 0 where
  pub leaf_names : {w s rest : List ℕ} (i : ℕ) → Spells w s rest → m ≤ length rest → R.leaf_name w i s rest → R'.leaf_name w i s rest
  pub inner_names : {w s rest : List ℕ} → Spells w s rest → m ≤ length rest → R.inner_name w s rest → R'.inner_name w s rest
  pub distances : {w s rest : List ℕ} → Number w s rest → m ≤ length rest → R.distance w s rest → R'.distance w s rest
  pub supports : {w s rest : List ℕ} → Number w s rest → m ≤ length rest → R.support w s rest → R'.support w s rest
  pub singles : R.fewest ≤ 1 → R'.fewest ≤ 1

-- X is also taken by other rules, where it leaves at least m bytes; then as many stand before it
pub record Taken (m : ℕ) (X : List ℕ → List ℕ → Type 0) (s rest : List ℕ) : Type 0 where
  pub before : m ≤ length s
  pub taken : X s rest

-- a colon and a number that other rules take too
colon-taken :
    (Takes' : List ℕ → List ℕ → List ℕ → Type 0) (m : ℕ) {w s s₁ s₂ rest : List ℕ} → Blanks s (58 ∷ s₁) → Blanks s₁ s₂ → Number w s₂ rest → m ≤ length rest
    → Takes' w s₂ rest → Taken m (ColonNumber Takes' w) s rest
colon-taken Takes' m bl gap n l taken =
    record { before = omega (arith, blanks_shorter bl, blanks_shorter gap, number_size n); taken = colon bl gap n taken }

module _ (m : ℕ) (R R' : Rules) (takes : Takes m R R') where
  pub distance-taken : {w s rest : List ℕ} → ColonNumber R.distance w s rest → m ≤ length rest → Taken m (ColonNumber R'.distance w) s rest
  distance-taken (colon bl gap n short) l = colon-taken R'.distance m bl gap n l (takes.distances n l short)

  -- a support behind its colon that ends before the place is taken by the other rules too
  pub support-taken : {w s rest : List ℕ} → ColonNumber R.support w s rest → m ≤ length rest → Taken m (ColonNumber R'.support w) s rest
  support-taken (colon bl gap n short) l = colon-taken R'.support m bl gap n l (takes.supports n l short)

  numbers-taken : {d b s rest : List ℕ} → Numbers R d b s rest → m ≤ length rest → Taken m (Numbers R' d b) s rest
  numbers-taken nothing l = record { before = l; taken = nothing }
  numbers-taken (distance c) l = let h = distance-taken c l in record { before = h.before; taken = distance h.taken }
  numbers-taken (both c e) l =
      let g = support-taken e l in
      let h = distance-taken c g.before in
      record { before = h.before; taken = both h.taken g.taken }
  numbers-taken (support bl c) l =
      let h = support-taken c l in
      record { before = omega (arith, blanks_shorter bl, h.before); taken = support bl h.taken }

  pub inner-taken : {w s rest : List ℕ} → Inner R w s rest → m ≤ length rest → Taken m (Inner R' w) s rest
  inner-taken nameless l = record { before = l; taken = nameless }
  inner-taken (named gap r short) l =
      record { before = omega (arith, blanks_shorter gap, spells_shorter r); taken = named gap r (takes.inner_names r l short) }

  abbrev NodeTaken : ℕ → List ℕ → Tree → List ℕ → Type 0
  NodeTaken k s t rest = m ≤ length rest → Taken m (λ s rest. Node R' k s t rest) s rest

  abbrev ChildrenTaken : ℕ → List ℕ → Forest → List ℕ → Type 0
  ChildrenTaken k s f rest = m ≤ length rest → Taken m (λ s rest. Children R' k s f rest) s rest

  leaf-taken :
      (k i : ℕ) (w d b s s₁ s₂ rest : List ℕ) → Blanks s s₁ → Spells w s₁ s₂ → R.leaf_name w i s₁ s₂ → Numbers R d b s₂ rest
      → NodeTaken k s (leaf i (record { name = []; distance = d; support = b })) rest
  leaf-taken k i w d b s s₁ s₂ rest gap r known behind l =
      let h = numbers-taken behind l in
      record {
        before = omega (arith, blanks_shorter gap, spells_shorter r, h.before);
        taken = a_leaf gap r (takes.leaf_names i r h.before known) h.taken;
      }

  inner-node-taken :
      (k : ℕ) (t : Tree) (f : Forest) (w d b s s₁ s₂ s₃ s₄ s₅ rest : List ℕ)
      → Blanks s (40 ∷ s₁) → NodeTaken k s₁ t s₂ → Blanks s₂ (44 ∷ s₃) → ChildrenTaken k s₃ f s₄ → Inner R w s₄ s₅ → Numbers R d b s₅ rest
      → NodeTaken (suc k) s (node t f (record { name = w; distance = d; support = b })) rest
  inner-node-taken k t f w d b s s₁ s₂ s₃ s₄ s₅ rest bl p comma q inner behind l =
      let h = numbers-taken behind l in
      let i = inner-taken inner h.before in
      let others = q i.before in
      let first = p (omega (arith, blanks_shorter comma, others.before)) in
      record {
        before = omega (arith, blanks_shorter bl, first.before);
        taken = an_inner bl first.taken comma others.taken i.taken h.taken;
      }

  single-taken :
      (k : ℕ) (t : Tree) (w d b s s₁ s₂ s₃ s₄ rest : List ℕ)
      → R.fewest ≤ 1 → Blanks s (40 ∷ s₁) → NodeTaken k s₁ t s₂ → Blanks s₂ (41 ∷ s₃) → Inner R w s₃ s₄ → Numbers R d b s₄ rest
      → NodeTaken (suc k) s t rest
  single-taken k t w d b s s₁ s₂ s₃ s₄ rest enough bl p closes inner behind l =
      let h = numbers-taken behind l in
      let i = inner-taken inner h.before in
      let only = p (omega (arith, blanks_shorter closes, i.before)) in
      record {
        before = omega (arith, blanks_shorter bl, only.before);
        taken = a_single (takes.singles enough) bl only.taken closes i.taken h.taken;
      }

  taken-steps : Steps R NodeTaken ChildrenTaken
  taken-steps =
      record {
        at_leaf = λ k i w d b s s₁ s₂ rest gap r known behind. leaf-taken k i w d b s s₁ s₂ rest gap r known behind;
        at_inner = λ k t f w d b s s₁ s₂ s₃ s₄ s₅ rest bl first p comma others q inner behind.
            inner-node-taken k t f w d b s s₁ s₂ s₃ s₄ s₅ rest bl p comma q inner behind;
        at_single = λ k t w d b s s₁ s₂ s₃ s₄ rest enough bl only p closes inner behind.
            single-taken k t w d b s s₁ s₂ s₃ s₄ rest enough bl p closes inner behind;
        at_last = λ k t s s₁ rest only p closes l.
            let h = p (omega (arith, blanks_shorter closes)) in
            record { before = h.before; taken = the_last h.taken closes };
        at_more = λ k t f s s₁ s₂ rest first p comma others q l.
            let g = q l in
            let h = p (omega (arith, blanks_shorter comma, g.before)) in
            record { before = h.before; taken = with_more h.taken comma g.taken };
      }

  pub node-taken : {k : ℕ} {s rest : List ℕ} {t : Tree} → Node R k s t rest → m ≤ length rest → Node R' k s t rest
  node-taken d l = (over_node R NodeTaken ChildrenTaken taken-steps d l).taken

  pub children-taken : {k : ℕ} {s rest : List ℕ} {f : Forest} → Children R k s f rest → m ≤ length rest → Children R' k s f rest
  children-taken d l = (over_children R NodeTaken ChildrenTaken taken-steps d l).taken

  pub text-taken : {k : ℕ} {s rest : List ℕ} {t : Tree} → Text R k s t rest → m ≤ length rest → Text R' k s t rest
  text-taken (text only ends) l = text (node-taken only (omega (arith, blanks_shorter ends))) ends

-- ---- a place before

-- with more bytes behind the place, fewer letters stand before it
fewer-before : (m m' : ℕ) (s rest : List ℕ) → m ≤ m' → length (letters (part_before m' s rest)) ≤ length (letters (part_before m s rest))
fewer-before m m' s rest l = letters_grow (length s - max m' (length rest)) (length s - max m (length rest)) s (omega arith)

pub earlier_takes : (given : Bool) (names : List (List ℕ)) (m m' : ℕ) → m ≤ m' → Takes 0 (kept_to given names m) (kept_to given names m')
earlier_takes given names m m' l =
    record {
      leaf_names = λ {w} {s} {rest} i r z h. (omega (arith, h.0, fewer-before m m' s rest l), λ ends. h.1 (omega arith));
      inner_names = λ {w} {s} {rest} r z h. omega (arith, fewer-before m m' s rest l);
      distances = λ {w} {s} {rest} n z h. let l' = simp length-take at h in simp length-take (omega arith);
      supports = λ {w} {s} {rest} n z h. let l' = simp length-take at h.0 in (simp length-take (omega arith), λ ends. h.1 (omega arith));
      singles = λ enough. enough;
    }

-- ---- what is strict is kept, whatever the place

pub strict_takes : (given : Bool) (names : List (List ℕ)) (m : ℕ) → Takes 0 (strict given names) (kept_to given names m)
strict_takes given names m =
    record {
      leaf_names = λ {w} {s} {rest} i r z h. (omega (arith, h.0, part-letters r (length s - max m (length rest)) (omega arith)), λ ends. (h.1, h.2));
      inner_names = λ {w} {s} {rest} r z h. omega (arith, part-letters r (length s - max m (length rest)) (omega arith));
      distances = λ {w} {s} {rest} n z h. simp length-take (omega (arith, number_size n));
      supports = λ {w} {s} {rest} n z h. (simp length-take (omega (arith, h.0, number_size n)), λ ends. h.1);
      singles = λ enough. enough;
    }

-- ---- what is kept, and ends before the place, is strict

pub kept_takes : (given : Bool) (names : List (List ℕ)) (m : ℕ) → Takes m (kept_to given names m) (strict given names)
kept_takes given names m =
    record {
      leaf_names = λ {w} {s} {rest} i r l h. let known = h.1 (omega (arith, spells_shorter r)) in (whole_short r l h.0, known.0, known.1);
      inner_names = λ {w} {s} {rest} r l h. whole_short r l h;
      distances = λ {w} {s} {rest} n l h. let k = simp length-take at h in omega (arith, number_size n);
      supports = λ {w} {s} {rest} n l h. let k = simp length-take at h.0 in (omega (arith, number_size n), h.1 l);
      singles = λ enough. enough;
    }
  where
    whole_short : {w s rest : List ℕ} → Spells w s rest → m ≤ length rest → length (letters (part_before m s rest)) ≤ label_bytes → length w ≤ label_bytes
    whole_short {w} {s} {rest} r l h =
        let all : length s - max m (length rest) ≡ length s - length rest = omega arith in
        let name : length (letters (part_before m s rest)) ≡ length w = ap (λ (n : ℕ). length (letters (take n s))) all ∙ ap length (whole_letters r) in
        omega arith

-- ---- nothing is at fault before an earlier place

-- bytes that stand in a text go on alike, whatever follows them
pub goes_on_itself : (before k : ℕ) (behind more : List ℕ) → suc k ≤ length behind → GoesOnAlike before (take (suc k) behind ++ more) behind
unfolding next_bare next_is next_digit
goes_on_itself before k [] more l = absurd (omega arith)
goes_on_itself before k (b ∷ behind) more l = record { label = record { bare = λ is e. e; quote = λ is e. e }; digits = λ is e. e }

module _ (given : Bool) (names : List (List ℕ)) {most : ℕ} (s : List ℕ) (d e : ℕ) (kept : Kept given names most s d) (l : e ≤ d) where
  abbrev between : List ℕ
  between = take (d - e) (drop e s)

  goes_on_before : GoesOnAlike (byte_before s e) (between ++ kept.more) (drop e s)
  goes_on_before = by (d - e) refl
    where
      by : (k : ℕ) → d - e ≡ k → GoesOnAlike (byte_before s e) (take k (drop e s) ++ kept.more) (drop e s)
      by zero is = let same : e ≡ d = omega arith in rw same kept.alike
      by (suc k) is = goes_on_itself (byte_before s e) k (drop e s) kept.more (simp length-drop (omega (arith, kept.inside)))

  -- what begins a text that is kept up to d is kept up to any place before
  pub kept-before : Kept given names most s e
  kept-before =
      let more' = between ++ kept.more in
      let sum : e + (d - e) ≡ d = omega arith in
      let same : take d s ++ kept.more ≡ take e s ++ more' =
      ap (λ (l : List ℕ). l ++ kept.more) (ap (λ (n : ℕ). take n s) (sym sum) ∙ take-add e (d - e) s) ∙ append_assoc (take e s) between kept.more
      in
      let longer : length kept.more ≤ length more' = simp length-append (omega arith) in
      record {
        inside = omega (arith, kept.inside);
        more = more';
        unended = omega (arith, kept.unended);
        alike = goes_on_before;
        tree = kept.tree;
        text = rw same at
            (text-taken 0 (kept_to given names (length kept.more)) (kept_to given names (length more')) (earlier_takes given names (length kept.more) (length more') longer)
            kept.text zero-le);
        once = kept.once;
      }
