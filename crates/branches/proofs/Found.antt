-- The ends of the nodes that a text draws are found from the left, in their order: each just behind its name or parenthesis, with what is written there.
use Prim.Native.Nat.{ℕ, suc, ◌+◌, ◌-◌, ◌≤◌}
use native.Mathlib.Omega.{arith}
use mathlib.Core.Path.{◌≡◌, refl, sym, ap, ap₂, ◌∙◌}
use mathlib.Core.Bool.{Bool, true, false}
use mathlib.Core.List.{List, [], ◌∷◌, ◌++◌, map, map-append}
use lib.ListN.{length}
use Rattle.labels.specs.Bytes.{is_blank, run, next_label}
use Rattle.labels.specs.Spelling.{Spells}
use Rattle.labels.specs.Labels.{label_bytes}
use Rattle.labels.proofs.Spelled.{spells_first}
use Rattle.trees.specs.Tree.{Tree, Forest, Behind}
use Rattle.trees.specs.Tree.Tree.{leaf, node}
use Rattle.trees.specs.Thinned.{all_nodes, all_nodes_of}
use Rattle.tokens.specs.Answers.Answer.{parsed}
use Rattle.tokens.specs.Tokens.{numbers}
use Rattle.tokens.specs.Supports.{refuses_fine, unless_fine, supported}
use Rattle.nodes.specs.Grammar.{Rules, strict, Blanks, Numbers, Inner, Node, Children}
use Rattle.nodes.specs.Grammar.Blanks.{none, blank}
use Rattle.nodes.specs.Grammar.Node.{a_leaf, an_inner, a_single}
use Rattle.nodes.specs.Grammar.Children.{the_last, with_more}
use Rattle.nodes.specs.Worth.{behind_of}
use Rattle.nodes.proofs.Derivations.{two_wanted}
use Rattle.nodes.proofs.Rests.{moves-length, name-moves, inner_name-moves, supported-moves}
use Rattle.nodes.proofs.Exact.{Gives, gives, gives_then, Follows, comma_follows, closing_follows, label-solid, label_other, label_no_byte, next_is_lem, solid-run}
use Rattle.nodes.proofs.Exact.{stopped-label, numbers-gives, numbers-stopped, name-gives, inner_name-gives}
use Rattle.branches.specs.Ends.{behinds, End, is_lead, lead, next_end, ends_from}

-- ---- one end after the other

-- from s on, which begins at p, nodes end so, one or more, and then rest is left, which begins at q
pub data Ending : List End → List ℕ → ℕ → List ℕ → ℕ → Type 0 where
  one_end : {e : End} {s rest : List ℕ} {p q : ℕ} → next_end s p ≡ parsed e rest q → Ending (e ∷ []) s p rest q
  and_then :
      {e : End} {es : List End} {s m rest : List ℕ} {p r q : ℕ} → next_end s p ≡ parsed e m r → Ending es m r rest q → Ending (e ∷ es) s p rest q

ending_append :
    {es fs : List End} {s m rest : List ℕ} {p r q : ℕ} → Ending es s p m r → Ending fs m r rest q → Ending (es ++ fs) s p rest q
ending_append (one_end is) more = and_then is more
ending_append (and_then is others) more = and_then is (ending_append others more)

ending_from : {es : List End} {s m rest : List ℕ} {p r q : ℕ} → next_end s p ≡ next_end m r → Ending es m r rest q → Ending es s p rest q
ending_from same (one_end is) = one_end (same ∙ is)
ending_from same (and_then is others) = and_then (same ∙ is) others

-- they are those that are found, as many as they are
pub ending_ends : {es : List End} {s rest : List ℕ} {p q : ℕ} → Ending es s p rest q → ends_from (length es) s p ≡ es
unfolding ends_from
ending_ends (one_end is) = rw is
ending_ends (and_then {e = e} is others) = rw is (ap (λ (l : List End). e ∷ l) (ending_ends others))

-- ---- what leads to an end

-- a blank leads to one
blank-leads : (b : ℕ) → is_blank b ≡ true → is_lead b ≡ true
blank-leads b is = rw is

-- from s on, which begins at p, the next end is that from m on
record Led (s : List ℕ) (p : ℕ) (m : List ℕ) : Type 0 where
  place : ℕ
  kept : place + length m ≡ p + length s
  same : next_end s p ≡ next_end m place

-- a byte that leads to it
led_byte : (b : ℕ) (s : List ℕ) (p : ℕ) → is_lead b ≡ true → next_end (b ∷ s) p ≡ next_end s (p + 1)
unfolding next_end lead run
led_byte b s p is =
    let on : p + suc (run is_lead s) ≡ p + 1 + run is_lead s = omega arith in
    rw (is, on)

led_blanks : {s m : List ℕ} → Blanks s m → (p : ℕ) → Led s p m
led_blanks none p = record { place = p; kept = refl; same = refl }
led_blanks (blank {b = b} {s = s} is more) p =
    let l = led_blanks more (p + 1) in
    record { place = l.place; kept = omega (arith, l.kept); same = led_byte b s p (blank-leads b is) ∙ l.same }

-- blanks and such a byte
led_to : (b : ℕ) {s m : List ℕ} → is_lead b ≡ true → Blanks s (b ∷ m) → (p : ℕ) → Led s p m
led_to b {s} {m} is gap p =
    let l = led_blanks gap p in
    record { place = l.place + 1; kept = omega (arith, l.kept); same = l.same ∙ led_byte b m l.place is }

-- ---- what ends a node

-- a label's first byte does not lead to it, but is it
label_no_lead : (s : List ℕ) → next_label s ≡ true → lead s ≡ 0
unfolding next_label lead run
label_no_lead [] is = refl
label_no_lead (b ∷ s) is = rw (label-solid b is, label_other 40 b refl is, label_other 44 b refl is)

-- numbers of the grammar are read as they are written
behind-gives :
    (given : Bool) (names : List (List ℕ)) (w : List ℕ) {d b s rest : List ℕ} → Numbers (strict given names) d b s rest → Follows rest → (p : ℕ)
    → Gives (supported false w s p) (record { name = w; distance = d; support = b }) rest
unfolding supported
behind-gives given names w {d} {b} {s} {rest} n follows p =
    gives_then (numbers w s p) (λ b s p. unless_fine (refuses_fine false b.support) b s p) (numbers-gives given names w n follows p)
    (λ q. gives (record { name = w; distance = d; support = b }) rest q)

-- s, which begins at p, begins with the end of a node: x stands just behind it, b is written there, and rest is left
record Ends (s : List ℕ) (p : ℕ) (x : List ℕ) (b : Behind) (rest : List ℕ) : Type 0 where
  place : ℕ
  next : ℕ
  is : next_end s p ≡ parsed (record { place = place; behind = b }) rest next
  behind : place + length x ≡ p + length s
  kept : next + length rest ≡ p + length s

module _ (given : Bool) (names : List (List ℕ)) where
  -- a leaf's name
  name_ends :
      {w d b s m rest : List ℕ} → Spells w s m → length w ≤ label_bytes → Numbers (strict given names) d b m rest → Follows rest → (p : ℕ)
      → Ends s p m (record { name = []; distance = d; support = b }) rest
  unfolding next_end
  name_ends {s = s} {m = m} r short behind follows p =
      let named = name-gives r (stopped-label (numbers-stopped behind follows)) short p in
      let read = behind-gives given names [] behind follows named.place in
      let there = moves-length (name-moves s p named.is) in
      let over = moves-length (supported-moves false [] m named.place read.is) in
      let begins = spells_first r in
      let at : p + 0 ≡ p = omega arith in
      record {
        place = named.place;
        next = read.place;
        is = rw (label_no_lead s begins, label_no_byte 41 s refl begins, at, named.is, read.is);
        behind = there;
        kept = over ∙ there;
      }

  -- a closing parenthesis
  closing_ends :
      {w d b s m rest : List ℕ} → Inner (strict given names) w s m → Numbers (strict given names) d b m rest → Follows rest → (p : ℕ)
      → Ends (41 ∷ s) p s (record { name = w; distance = d; support = b }) rest
  unfolding next_end lead
  closing_ends {w = w} {s = s} {m = m} inner behind follows p =
      let named = inner_name-gives given names inner (numbers-stopped behind follows) (p + 1) in
      let read = behind-gives given names w behind follows named.place in
      let there = moves-length (inner_name-moves s (p + 1) named.is) in
      let over = moves-length (supported-moves false w m named.place read.is) in
      let at : p + 0 ≡ p = omega arith in
      record {
        place = p + 1;
        next = read.place;
        is = rw (solid-run is_lead 41 s refl, next_is_lem 41 s, at, named.is, read.is);
        behind = omega arith;
        kept = omega (arith, there, over);
      }

-- ---- the ends of nodes

-- from s on, which begins at p, these nodes end in their order, just before the texts xs, and rest is left
pub record Found (nodes : List Tree) (xs : List (List ℕ)) (s : List ℕ) (p : ℕ) (rest : List ℕ) : Type 0 where
  pub ends : List End
  pub next : ℕ
  pub ending : Ending ends s p rest next
  pub kept : next + length rest ≡ p + length s
  pub places : map (λ e. e.place) ends ≡ map (λ x. (p + length s) - length x) xs
  pub behind : map (λ e. e.behind) ends ≡ map behind_of nodes

found_one : {s x rest : List ℕ} {b : Behind} (p : ℕ) (t : Tree) → behind_of t ≡ b → Ends s p x b rest → Found (t ∷ []) (x ∷ []) s p rest
found_one {s} {x} {rest} {b} p t is e = record {
  ends = record { place = e.place; behind = b } ∷ [];
  next = e.next;
  ending = one_end e.is;
  kept = e.kept;
  places = ap (λ (n : ℕ). n ∷ []) (omega (arith, e.behind));
  behind = ap (λ (b : Behind). b ∷ []) (sym is);
}

found_led : {nodes : List Tree} {xs : List (List ℕ)} {s m rest : List ℕ} {p : ℕ} (l : Led s p m) → Found nodes xs m l.place rest → Found nodes xs s p rest
found_led l f = record {
  ends = f.ends;
  next = f.next;
  ending = ending_from l.same f.ending;
  kept = f.kept ∙ l.kept;
  places = rw l.kept at f.places;
  behind = f.behind;
}

found_append :
    {nodes others : List Tree} {xs ys : List (List ℕ)} {s m rest : List ℕ} {p : ℕ} (f : Found nodes xs s p m) → Found others ys m f.next rest
    → Found (nodes ++ others) (xs ++ ys) s p rest
found_append {nodes} {others} {xs} {ys} {s} {p = p} f g =
    let at : List ℕ → ℕ = λ x. (p + length s) - length x in
    let there : map (λ e. e.place) g.ends ≡ map at ys = rw f.kept at g.places in
    record {
      ends = f.ends ++ g.ends;
      next = g.next;
      ending = ending_append f.ending g.ending;
      kept = g.kept ∙ f.kept;
      places = map-append (λ (e : End). e.place) f.ends g.ends ∙ ap₂ ◌++◌ f.places there ∙ sym (map-append at xs ys);
      behind = map-append (λ (e : End). e.behind) f.ends g.ends ∙ ap₂ ◌++◌ f.behind g.behind ∙ sym (map-append behind_of nodes others);
    }

-- the same of the children behind a first comma: what is left of their text closes them
record FoundOf (nodes : List Tree) (xs : List (List ℕ)) (s : List ℕ) (p : ℕ) (rest : List ℕ) : Type 0 where
  left : List ℕ
  found : Found nodes xs s p left
  closes : Blanks left (41 ∷ rest)

-- a node, a comma and the others
beside :
    {nodes others : List Tree} {xs ys : List (List ℕ)} {s m m₁ rest : List ℕ} {p : ℕ} → Found nodes xs s p m → Blanks m (44 ∷ m₁)
    → ((q : ℕ) → FoundOf others ys m₁ q rest) → FoundOf (nodes ++ others) (xs ++ ys) s p rest
beside first comma others =
    let l = led_to 44 refl comma first.next in
    let behind = others l.place in
    record { left = behind.left; found = found_append first (found_led l behind.found); closes = behind.closes }

-- the texts behind the nodes among the children: `behinds` goes through them so
unfoldable pub among : {R : Rules} {k : ℕ} {s : List ℕ} {f : Forest} {rest : List ℕ} → Children R k s f rest → List (List ℕ)
among d =
    elim d as (λ k s t rest d. List (List ℕ)) (λ k s f rest d. List (List ℕ)) [
      | a_leaf {s₂ = behind} gap named known numbers ↦ behind ∷ []
      | an_inner {s₄ = behind} opens (first → l) comma (others → m) inner numbers ↦ l ++ m ++ (behind ∷ [])
      | a_single enough opens (only → l) closes inner numbers ↦ l
      | the_last (only → l) closes ↦ l
      | with_more (first → l) comma (others → m) ↦ l ++ m
    ]

-- ---- rule by rule

module _ (given : Bool) (names : List (List ℕ)) where
  leaf-found :
      (i : ℕ) {w d b s s₁ s₂ rest : List ℕ} → Blanks s s₁ → Spells w s₁ s₂ → length w ≤ label_bytes → Numbers (strict given names) d b s₂ rest
      → Follows rest → (p : ℕ) → Found (leaf i (record { name = []; distance = d; support = b }) ∷ []) (s₂ ∷ []) s p rest
  leaf-found i gap r short behind follows p =
      let l = led_blanks gap p in
      found_led l (found_one l.place (leaf i _) refl (name_ends given names r short behind follows l.place))

  -- behind its children a node closes
  closing-found :
      (t : Tree) (f : Forest) {w d b s s₁ s₂ rest : List ℕ} {nodes : List Tree} {xs : List (List ℕ)} (p : ℕ)
      → FoundOf nodes xs s p s₁ → Inner (strict given names) w s₁ s₂ → Numbers (strict given names) d b s₂ rest → Follows rest
      → Found (nodes ++ (node t f (record { name = w; distance = d; support = b }) ∷ [])) (xs ++ (s₁ ∷ [])) s p rest
  closing-found t f p children inner behind follows =
      let l = led_blanks children.closes children.found.next in
      found_append children.found (found_led l (found_one l.place (node t f _) refl (closing_ends given names inner behind follows l.place)))

  -- the ends of a node's text are found from the left, where what follows ends it
  pub node-found :
      {k : ℕ} {s : List ℕ} {t : Tree} {rest : List ℕ} (d : Node (strict given names) k s t rest) → Follows rest → (p : ℕ)
      → Found (all_nodes t) (behinds d) s p rest
  unfolding behinds among all_nodes all_nodes_of
  node-found d =
      elim d as (λ k s t rest d. Follows rest → (p : ℕ) → Found (all_nodes t) (behinds d) s p rest)
      (λ k s f rest d. (p : ℕ) → FoundOf (all_nodes_of f) (among d) s p rest) [
        | a_leaf {i = i} gap r known behind ↦ λ follows p. leaf-found i gap r known.0 behind follows p
        | an_inner {t = t} {f = f} opens (first → found) comma (others → founds) inner behind ↦ λ follows p.
            let l = led_to 40 refl opens p in
            closing-found t f p (beside (found_led l (found (comma_follows comma) l.place)) comma founds) inner behind follows
        | a_single enough opens (only → found) closes inner behind ↦ λ follows p. absurd (two_wanted enough)
        | the_last (only → found) closes ↦ λ p. record { left = _; found = found (closing_follows closes) p; closes = closes }
        | with_more (first → found) comma (others → founds) ↦ λ p. beside (found (comma_follows comma) p) comma founds
      ]
