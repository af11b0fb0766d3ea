-- Where the bytes of a text leave off: between tokens, within a label or a number, or behind the end. A machine over bytes, which no text of the grammar halts.
use Prim.Native.Nat.{ℕ}
use mathlib.Core.Path.{◌≡◌, refl, sym, ap, ◌∙◌}
use mathlib.Core.Bool.{Bool, true, false, ◌||◌}
use mathlib.Core.List.{List, [], ◌∷◌, ◌++◌}
use native.Mathlib.Omega.{arith}
use lib.Dec.{eqb}
use Rattle.labels.specs.Bytes.{is_digit, is_bare, is_printable, is_blank}
use Rattle.labels.specs.Spelling.{Run, Quoted, Spells}
use Rattle.labels.specs.Spelling.Run.{one, next}
use Rattle.labels.specs.Spelling.Quoted.{closes, plain, twice}
use Rattle.labels.specs.Spelling.Spells.{bare, quoted}
use Rattle.labels.proofs.ByteKinds.{plain_no_quote, plain-printable}
use Rattle.trees.specs.Tree.{Tree, Forest}
use Rattle.nodes.specs.Grammar.{Rules, lifted, Blanks, Number, ColonNumber, Numbers, Inner, Node, Text}
use Rattle.nodes.specs.Grammar.Blanks.{none, blank}
use Rattle.nodes.specs.Grammar.Number.{whole, decimal}
use Rattle.nodes.specs.Grammar.ColonNumber.{colon}
use Rattle.nodes.specs.Grammar.Numbers.{nothing, distance, both, support}
use Rattle.nodes.specs.Grammar.Inner.{nameless, named}
use Rattle.nodes.specs.Grammar.Text.{text}
use Rattle.meanings.specs.Meaning.{IsNode, IsName, IsNumber, MayStand, NodeMayStand, NameMayStand, NumberMayStand}
use Rattle.nodes.proofs.Derivations.{Steps, over_node}
use Rattle.nodes.proofs.Exact.{blank_all}
use Rattle.meanings.proofs.MeaningContexts.{node-behind-blanks, opening-node}

-- ---- the machine

-- fresh: a node may stand; closed: behind `)`; valued: behind a colon; in a bare label, in a number, within quotes, behind a quote that may close them;
-- spaced: behind such a token and blanks; ended: behind `;`; halted: no text goes on so
pub data State : Type 0 where
  fresh closed valued in-name in-number in-quotes at-quote spaced ended halted : State

abbrev pub either : Bool → State → State → State
either true x y = x
either false x y = y

-- what may follow a whole node, with the state that blanks lead to
abbrev pub follow : State → ℕ → State
follow x b =
    either (is_blank b) x (either (eqb b 44) fresh (either (eqb b 41) closed (either (eqb b 58) valued (either (eqb b 59) ended halted))))

-- the state behind one more byte
abbrev pub onward : State → ℕ → State
onward fresh b = either (is_bare b) in-name (either (eqb b 39) in-quotes (either (is_blank b || eqb b 40) fresh halted))
onward closed b = either (is_bare b) in-name (either (eqb b 39) in-quotes (follow closed b))
onward valued b = either (is_digit b) in-number (either (is_blank b || eqb b 58) valued halted)
onward in-name b = either (is_bare b) in-name (follow spaced b)
onward in-number b = either (is_digit b || eqb b 46) in-number (follow spaced b)
onward in-quotes b = either (eqb b 39) at-quote (either (is_printable b) in-quotes halted)
onward at-quote b = either (eqb b 39) in-quotes (follow spaced b)
onward spaced b = follow spaced b
onward ended b = halted
onward halted b = halted

-- the state behind bytes
unfoldable pub from : State → List ℕ → State
from x [] = x
from x (b ∷ s) = from (onward x b) s

-- the state behind the bytes of a text's beginning
abbrev pub state : List ℕ → State
state u = from fresh u

pub from_append : (x : State) (u v : List ℕ) → from x (u ++ v) ≡ from (from x u) v
unfolding from
from_append x [] v = refl
from_append x (b ∷ u) v = from_append (onward x b) u v

pub from_halted : (s : List ℕ) → from halted s ≡ halted
unfolding from
from_halted [] = refl
from_halted (b ∷ s) = from_halted s

-- one byte
from_byte : (x : State) (b : ℕ) (s : List ℕ) {y : State} → onward x b ≡ y → from x (b ∷ s) ≡ from y s
unfolding from
from_byte x b s e = ap (λ (z : State). from z s) e

-- ---- where a label may begin, and behind a node

-- a label may begin
pub data Open : State → Type 0 where
  open_fresh : Open fresh
  open_closed : Open closed

-- a whole node may end
pub data Over : State → Type 0 where
  over_closed : Over closed
  over_name : Over in-name
  over_number : Over in-number
  over_quote : Over at-quote
  over_spaced : Over spaced

-- blanks change nothing where no token goes on
pub data Calm : State → Type 0 where
  calm_fresh : Calm fresh
  calm_closed : Calm closed
  calm_valued : Calm valued
  calm_spaced : Calm spaced

calm_blank : {x : State} → Calm x → (b : ℕ) → is_blank b ≡ true → onward x b ≡ x
calm_blank calm_fresh = blank_all (λ (b : ℕ). onward fresh b ≡ fresh) refl refl refl refl
calm_blank calm_closed = blank_all (λ (b : ℕ). onward closed b ≡ closed) refl refl refl refl
calm_blank calm_valued = blank_all (λ (b : ℕ). onward valued b ≡ valued) refl refl refl refl
calm_blank calm_spaced = blank_all (λ (b : ℕ). onward spaced b ≡ spaced) refl refl refl refl

-- a token is over at a blank
token_blank : {x : State} → Over x → (b : ℕ) → is_blank b ≡ true → (y : State) × Calm y × Over y × (onward x b ≡ y)
token_blank over_closed b is = (closed, calm_closed, over_closed, calm_blank calm_closed b is)
token_blank over_name b is = (spaced, calm_spaced, over_spaced, blank_all (λ (b : ℕ). onward in-name b ≡ spaced) refl refl refl refl b is)
token_blank over_number b is = (spaced, calm_spaced, over_spaced, blank_all (λ (b : ℕ). onward in-number b ≡ spaced) refl refl refl refl b is)
token_blank over_quote b is = (spaced, calm_spaced, over_spaced, blank_all (λ (b : ℕ). onward at-quote b ≡ spaced) refl refl refl refl b is)
token_blank over_spaced b is = (spaced, calm_spaced, over_spaced, calm_blank calm_spaced b is)

pub calm_blanks : {x : State} {s rest : List ℕ} → Calm x → Blanks s rest → from x s ≡ from x rest
calm_blanks c none = refl
calm_blanks {x} c (blank {b = b} {s = s} is d) = from_byte x b s (calm_blank c b is) ∙ calm_blanks c d

-- what was read leads from x to a state behind a node
pub record Leads (x : State) (s rest : List ℕ) : Type 0 where
  pub to : State
  pub over : Over to
  pub leads : from x s ≡ from to rest

-- one piece behind another
leads_from : (x y : State) {s m rest : List ℕ} → from x s ≡ from y m → Leads y m rest → Leads x s rest
leads_from x y e a = record { to = a.to; over = a.over; leads = e ∙ a.leads }

leads_on : {x : State} {s m rest : List ℕ} → (a : Leads x s m) → Leads a.to m rest → Leads x s rest
leads_on {x} a b = leads_from x a.to a.leads b

pub over_blanks : {x : State} {s rest : List ℕ} → Over x → Blanks s rest → Leads x s rest
over_blanks {x} o none = record { to = x; over = o; leads = refl }
over_blanks {x} o (blank {b = b} {s = s} is d) =
    let y = token_blank o b is in
    record { to = y.0; over = y.2; leads = from_byte x b s y.3 ∙ calm_blanks y.1 d }

-- a byte that follows a node leads to one state, whatever state the node ended in
abbrev pub Mark : ℕ → State → Type 0
Mark b y = (is_bare b ≡ false) × ((is_digit b || eqb b 46) ≡ false) × (eqb b 39 ≡ false) × (follow closed b ≡ y) × (follow spaced b ≡ y)

pub marked : (b : ℕ) {x y : State} → Mark b y → Over x → onward x b ≡ y
marked b m over_closed = rw (m.0, m.2) m.3
marked b m over_name = rw m.0 m.4
marked b m over_number = rw m.1 m.4
marked b m over_quote = rw m.2 m.4
marked b m over_spaced = m.4

comma : Mark 44 fresh
comma = (refl, refl, refl, refl, refl)

pub closing : Mark 41 closed
closing = (refl, refl, refl, refl, refl)

colons : Mark 58 valued
colons = (refl, refl, refl, refl, refl)

ending : Mark 59 ended
ending = (refl, refl, refl, refl, refl)

over_mark : (b : ℕ) {x y : State} {s rest : List ℕ} → Mark b y → Over x → Blanks s (b ∷ rest) → from x s ≡ from y rest
over_mark b {rest = rest} m o d = let h = over_blanks o d in h.leads ∙ from_byte h.to b rest (marked b m h.over)

-- ---- tokens

-- a run of bytes at which the machine stays
run-stays : {test : ℕ → Bool} (y : State) → ((b : ℕ) → test b ≡ true → onward y b ≡ y) → {w s rest : List ℕ} → Run test w s rest → from y s ≡ from y rest
run-stays y stays (one {b = b} {rest = rest} is) = from_byte y b rest (stays b is)
run-stays y stays (next {b = b} {s = s} is d) = from_byte y b s (stays b is) ∙ run-stays y stays d

run-leads :
    {test : ℕ → Bool} (x y : State) → ((b : ℕ) → test b ≡ true → onward x b ≡ y) → ((b : ℕ) → test b ≡ true → onward y b ≡ y)
    → {w s rest : List ℕ} → Run test w s rest → from x s ≡ from y rest
run-leads x y enters stays (one {b = b} {rest = rest} is) = from_byte x b rest (enters b is)
run-leads x y enters stays (next {b = b} {s = s} is d) = from_byte x b s (enters b is) ∙ run-stays y stays d

pub bare-enters : {x : State} → Open x → (b : ℕ) → is_bare b ≡ true → onward x b ≡ in-name
bare-enters open_fresh b is = rw is
bare-enters open_closed b is = rw is

pub quote-enters : {x : State} → Open x → onward x 39 ≡ in-quotes
quote-enters open_fresh = refl
quote-enters open_closed = refl

pub quoted-leads : {w s rest : List ℕ} → Quoted w s rest → from in-quotes s ≡ from at-quote rest
quoted-leads (closes {rest = rest}) = from_byte in-quotes 39 rest refl
quoted-leads (plain {b = b} {s = s} is d) = from_byte in-quotes b s (rw (plain_no_quote b is, plain-printable b is)) ∙ quoted-leads d
quoted-leads (twice {s = s} d) = from_byte in-quotes 39 (39 ∷ s) refl ∙ (from_byte at-quote 39 s refl ∙ quoted-leads d)

pub label-leads : {x : State} {w s rest : List ℕ} → Open x → Spells w s rest → Leads x s rest
label-leads {x} o (bare r) =
    record { to = in-name; over = over_name; leads = run-leads x in-name (bare-enters o) (λ b is. rw is) r }
label-leads {x} o (quoted {s = s} d) =
    record { to = at-quote; over = over_quote; leads = from_byte x 39 s (quote-enters o) ∙ quoted-leads d }

digits-lead : {w s rest : List ℕ} → Run is_digit w s rest → from valued s ≡ from in-number rest
digits-lead r = run-leads valued in-number (λ b is. rw is) (λ b is. rw is) r

pub number-leads : {w s rest : List ℕ} → Number w s rest → from valued s ≡ from in-number rest
number-leads (whole r) = digits-lead r
number-leads (decimal {mid = mid} r u) = digits-lead r ∙ (from_byte in-number 46 mid refl ∙ run-stays in-number (λ b is. rw is) u)

-- a colon and a number, from a state from which a colon leads on
colon-leads :
    {Takes : List ℕ → List ℕ → List ℕ → Type 0} (x : State) {w s rest : List ℕ} → ((m : List ℕ) → Blanks s (58 ∷ m) → from x s ≡ from valued m)
    → ColonNumber Takes w s rest → from x s ≡ from in-number rest
colon-leads x leads (colon {s₁ = m} bl gap n fits) = leads m bl ∙ (calm_blanks calm_valued gap ∙ number-leads n)

module _ {R : Rules} where
  numbers-lead : {x : State} {d b s rest : List ℕ} → Over x → Numbers R d b s rest → Leads x s rest
  numbers-lead {x} o nothing = record { to = x; over = o; leads = refl }
  numbers-lead {x} o (distance c) = record { to = in-number; over = over_number; leads = colon-leads x (λ m bl. over_mark 58 colons o bl) c }
  numbers-lead {x} o (both c e) =
      record {
        to = in-number;
        over = over_number;
        leads = colon-leads x (λ m bl. over_mark 58 colons o bl) c ∙ colon-leads in-number (λ m bl. over_mark 58 colons over_number bl) e;
      }
  numbers-lead o (support bl c) =
      record {
        to = in-number;
        over = over_number;
        leads = over_mark 58 colons o bl ∙ colon-leads valued (λ m bl. calm_blanks calm_valued bl ∙ from_byte valued 58 m refl) c;
      }

  inner-leads : {w s rest : List ℕ} → Inner R w s rest → Leads closed s rest
  inner-leads nameless = record { to = closed; over = over_closed; leads = refl }
  inner-leads (named gap r fits) =
      let h = label-leads open_closed r in
      record { to = h.to; over = h.over; leads = calm_blanks calm_closed gap ∙ h.leads }

  -- behind `)`
  closed-leads : {w d b s m rest : List ℕ} → Inner R w s m → Numbers R d b m rest → Leads closed s rest
  closed-leads inner behind = let a = inner-leads inner in leads_on a (numbers-lead a.over behind)

-- ---- nodes

abbrev NodeLeads : ℕ → List ℕ → Tree → List ℕ → Type 0
NodeLeads k s t rest = Leads fresh s rest

abbrev ChildrenLead : ℕ → List ℕ → Forest → List ℕ → Type 0
ChildrenLead k s f rest = from fresh s ≡ from closed rest

opening-leads : {s m : List ℕ} → Blanks s (40 ∷ m) → from fresh s ≡ from fresh m
opening-leads {m = m} bl = calm_blanks calm_fresh bl ∙ from_byte fresh 40 m refl

-- a child and what follows it
child-leads : (b : ℕ) {y : State} {s m rest : List ℕ} → Mark b y → Leads fresh s m → Blanks m (b ∷ rest) → from fresh s ≡ from y rest
child-leads b m a bl = a.leads ∙ over_mark b m a.over bl

state-steps : (R : Rules) → Steps R NodeLeads ChildrenLead
state-steps R =
    record {
      at_leaf = λ k i w d b s s₁ s₂ rest gap r known behind.
          let a = label-leads open_fresh r in leads_from fresh _ (calm_blanks calm_fresh gap) (leads_on a (numbers-lead a.over behind));
      at_inner = λ k t f w d b s s₁ s₂ s₃ s₄ s₅ rest bl first p comma' others q inner behind.
          leads_from fresh _ (opening-leads bl ∙ (child-leads 44 comma p comma' ∙ q)) (closed-leads inner behind);
      at_single = λ k t w d b s s₁ s₂ s₃ s₄ rest enough bl only p closes inner behind.
          leads_from fresh _ (opening-leads bl ∙ child-leads 41 closing p closes) (closed-leads inner behind);
      at_last = λ k t s s₁ rest only p closes. child-leads 41 closing p closes;
      at_more = λ k t f s s₁ s₂ rest first p comma' others q. child-leads 44 comma p comma' ∙ q;
    }

pub node-leads : {R : Rules} {k : ℕ} {t : Tree} {s rest : List ℕ} → Node R k s t rest → Leads fresh s rest
node-leads {R} d = over_node R NodeLeads ChildrenLead (state-steps R) d

-- a text leads to its end
pub text-leads : {R : Rules} {k : ℕ} {t : Tree} {s rest : List ℕ} → Text R k s t rest → from fresh s ≡ from ended rest
text-leads (text d ends) = child-leads 59 ending (node-leads d) ends

pub text-ended : {R : Rules} {k : ℕ} {t : Tree} {s : List ℕ} → Text R k s t [] → state s ≡ ended
unfolding from
text-ended d = text-leads d

-- ---- where a node, a name or a number may stand

-- a state from which bytes lead to the end is not halted
ended_not_halted : {x : State} → x ≡ ended → x ≡ halted → ⊥
ended_not_halted e h = let z : ◌≡◌ {A = ℕ} 0 1 = cc in omega arith

-- where a piece may stand it does not halt the machine
may_go_on : {R : Rules} {P : List ℕ → Type 0} {u : List ℕ} → MayStand R P u → (v : List ℕ) → P v → from (state u) v ≡ halted → ⊥
may_go_on {u = u} may v p h =
    let e : state (u ++ v ++ may.end) ≡ from (from (state u) v) may.end =
    from_append fresh (u ++ v) may.end ∙ ap (λ (x : State). from x may.end) (from_append fresh u v)
    in
    ended_not_halted (sym e ∙ text-ended (may.text v p).2) (ap (λ (x : State). from x may.end) h ∙ from_halted may.end)

-- a line feed and the node `(a,a)`
feed_node : IsNode lifted (10 ∷ 40 ∷ 97 ∷ 44 ∷ 97 ∷ 41 ∷ [])
feed_node = (_, _, node-behind-blanks (blank refl none) opening-node.2)

-- a line feed and the name `a`
feed_name : IsName (10 ∷ 97 ∷ [])
feed_name = (97 ∷ [], 97 ∷ [], blank refl none, bare (one refl))

-- a line feed and the number `1.1`
feed_number : IsNumber (10 ∷ 49 ∷ 46 ∷ 49 ∷ [])
feed_number = (49 ∷ 46 ∷ 49 ∷ [], 49 ∷ 46 ∷ 49 ∷ [], blank refl none, decimal (one refl) (one refl))

fresh-alone : (x : State) → (from x (10 ∷ 40 ∷ 97 ∷ 44 ∷ 97 ∷ 41 ∷ []) ≡ halted → ⊥) → x ≡ fresh
unfolding from
fresh-alone fresh f = refl
fresh-alone closed f = absurd (f refl)
fresh-alone valued f = absurd (f refl)
fresh-alone in-name f = absurd (f refl)
fresh-alone in-number f = absurd (f refl)
fresh-alone in-quotes f = absurd (f refl)
fresh-alone at-quote f = absurd (f refl)
fresh-alone spaced f = absurd (f refl)
fresh-alone ended f = absurd (f refl)
fresh-alone halted f = absurd (f refl)

open_alone : (x : State) → (from x (10 ∷ 97 ∷ []) ≡ halted → ⊥) → Open x
unfolding from
open_alone fresh f = open_fresh
open_alone closed f = open_closed
open_alone valued f = absurd (f refl)
open_alone in-name f = absurd (f refl)
open_alone in-number f = absurd (f refl)
open_alone in-quotes f = absurd (f refl)
open_alone at-quote f = absurd (f refl)
open_alone spaced f = absurd (f refl)
open_alone ended f = absurd (f refl)
open_alone halted f = absurd (f refl)

valued-alone : (x : State) → (from x (10 ∷ 49 ∷ 46 ∷ 49 ∷ []) ≡ halted → ⊥) → x ≡ valued
unfolding from
valued-alone fresh f = absurd (f refl)
valued-alone closed f = absurd (f refl)
valued-alone valued f = refl
valued-alone in-name f = absurd (f refl)
valued-alone in-number f = absurd (f refl)
valued-alone in-quotes f = absurd (f refl)
valued-alone at-quote f = absurd (f refl)
valued-alone spaced f = absurd (f refl)
valued-alone ended f = absurd (f refl)
valued-alone halted f = absurd (f refl)

pub node-fresh : {u : List ℕ} → NodeMayStand u → state u ≡ fresh
node-fresh {u} may = fresh-alone (state u) (may_go_on may _ feed_node)

pub name_open : {u : List ℕ} → NameMayStand u → Open (state u)
name_open {u} may = open_alone (state u) (may_go_on may _ feed_name)

pub number-valued : {u : List ℕ} → NumberMayStand u → state u ≡ valued
number-valued {u} may = valued-alone (state u) (may_go_on may _ feed_number)
