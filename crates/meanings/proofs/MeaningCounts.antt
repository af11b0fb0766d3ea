-- How often parentheses stand outside quotes in what a derivation uses up.
use Prim.Native.Nat.{ℕ, ◌+◌}
use mathlib.Core.Path.{◌≡◌, refl, ap, ◌∙◌}
use mathlib.Core.Bool.{Bool, true, false, ◌||◌}
use mathlib.Core.List.{List, [], ◌∷◌, ◌++◌}
use native.Mathlib.Omega.{arith}
use borrow.Author.Tests.{eqb-true}
use lib.Dec.{eqb}
use Rattle.labels.specs.Bytes.{is_digit, is_bare, is_printable, is_blank}
use Rattle.labels.specs.Spelling.{Run, Quoted, Spells}
use Rattle.labels.specs.Spelling.Run.{one, next}
use Rattle.labels.specs.Spelling.Quoted.{closes, plain, twice}
use Rattle.labels.specs.Spelling.Spells.{bare, quoted}
use Rattle.labels.proofs.ByteKinds.{plain_no_quote}
use Rattle.trees.specs.Tree.{Tree}
use Rattle.roster.specs.Roster.{turned_if}
use Rattle.nodes.specs.Grammar.{Rules, Blanks, Number, ColonNumber, Numbers, Inner, Node}
use Rattle.nodes.specs.Grammar.Blanks.{none, blank}
use Rattle.nodes.specs.Grammar.Number.{whole, decimal}
use Rattle.nodes.specs.Grammar.ColonNumber.{colon}
use Rattle.nodes.specs.Grammar.Numbers.{nothing, distance, both, support}
use Rattle.nodes.specs.Grammar.Inner.{nameless, named}
use Rattle.nodes.proofs.Derivations.{Steps, over_node}
use Rattle.meanings.specs.Meaning.{count_from, NodeMayStand}
use Rattle.meanings.proofs.States.{State, either, follow, onward, from, from_halted, node-fresh}
use Rattle.meanings.proofs.States.State.{fresh, closed, valued, in-name, in-number, in-quotes, at-quote, spaced, ended, halted}

-- ---- one text behind another

-- the state stands within quotes
abbrev quotes : State → Bool
quotes fresh = false
quotes closed = false
quotes valued = false
quotes in-name = false
quotes in-number = false
quotes in-quotes = true
quotes at-quote = false
quotes spaced = false
quotes ended = false
quotes halted = false

record Sides (x : State) (q : Bool) : Type 0 where
  is : quotes x ≡ q

abbrev Outside : State → Type 0
Outside x = Sides x false

out : (x : State) → quotes x ≡ false → Outside x
out x e = record { is = e }

or_outside : (t : Bool) {x y : State} → Outside x → Outside y → Outside (either t x y)
or_outside true a b = a
or_outside false a b = b

follow-outside : {x : State} (b : ℕ) → Outside x → Outside (follow x b)
follow-outside b a =
    or_outside (is_blank b) a
    (or_outside (eqb b 44) (out fresh refl)
    (or_outside (eqb b 41) (out closed refl)
    (or_outside (eqb b 58) (out valued refl) (or_outside (eqb b 59) (out ended refl) (out halted refl)))))

-- a quote leads into quotes and out of them
quote-turns : (x : State) → (onward x 39 ≡ halted → ⊥) → quotes (onward x 39) ≡ turned_if true (quotes x)
quote-turns fresh f = refl
quote-turns closed f = refl
quote-turns valued f = absurd (f refl)
quote-turns in-name f = absurd (f refl)
quote-turns in-number f = absurd (f refl)
quote-turns in-quotes f = refl
quote-turns at-quote f = refl
quote-turns spaced f = absurd (f refl)
quote-turns ended f = absurd (f refl)
quote-turns halted f = absurd (f refl)

-- and no other byte does
other_inside : (b : ℕ) → eqb b 39 ≡ false → (onward in-quotes b ≡ halted → ⊥) → quotes (onward in-quotes b) ≡ true
other_inside b other f = go (is_printable b) refl
  where
    go : (t : Bool) → is_printable b ≡ t → quotes (onward in-quotes b) ≡ true
    go true is = rw (other, is)
    go false is = absurd (f (rw (other, is)))

other_sides : (x : State) (b : ℕ) → eqb b 39 ≡ false → (onward x b ≡ halted → ⊥) → Sides (onward x b) (quotes x)
other_sides fresh b other f =
    rw other (or_outside (is_bare b) (out in-name refl) (or_outside (is_blank b || eqb b 40) (out fresh refl) (out halted refl)))
other_sides closed b other f = rw other (or_outside (is_bare b) (out in-name refl) (follow-outside b (out closed refl)))
other_sides valued b other f =
    or_outside (is_digit b) (out in-number refl) (or_outside (is_blank b || eqb b 58) (out valued refl) (out halted refl))
other_sides in-name b other f = or_outside (is_bare b) (out in-name refl) (follow-outside b (out spaced refl))
other_sides in-number b other f = or_outside (is_digit b || eqb b 46) (out in-number refl) (follow-outside b (out spaced refl))
other_sides in-quotes b other f = record { is = other_inside b other f }
other_sides at-quote b other f = rw other (follow-outside b (out spaced refl))
other_sides spaced b other f = follow-outside b (out spaced refl)
other_sides ended b other f = out halted refl
other_sides halted b other f = out halted refl

-- the state turns where the count does
byte-turns : (x : State) (b : ℕ) → (onward x b ≡ halted → ⊥) → quotes (onward x b) ≡ turned_if (eqb b 39) (quotes x)
byte-turns x b f = go (eqb b 39) refl
  where
    go : (t : Bool) → eqb b 39 ≡ t → quotes (onward x b) ≡ turned_if t (quotes x)
    go true is = let e = eqb-true b 39 is in rw e (quote-turns x (rw e at f))
    go false is = (other_sides x b is f).is

-- bytes that do not halt the machine, and more behind them
count-behind :
    (b : ℕ) (x : State) (u y : List ℕ) → (from x u ≡ halted → ⊥)
    → count_from (quotes x) b (u ++ y) ≡ count_from (quotes x) b u + count_from (quotes (from x u)) b y
unfolding count_from from
count-behind b x [] y f = omega arith
count-behind b x (c ∷ u) y f =
    let h = count-behind b (onward x c) u y f in
    let e = byte-turns x c (λ h. f (ap (λ (z : State). from z u) h ∙ from_halted u)) in
    omega (arith, rw e at h)

-- where a node may stand, no quotes are open
pub count_append : (b : ℕ) {u : List ℕ} (y : List ℕ) → NodeMayStand u → count_from false b (u ++ y) ≡ count_from false b u + count_from false b y
count_append b {u} y may =
    let e = node-fresh may in
    rw e at (count-behind b fresh u y (λ h. let z : ◌≡◌ {A = ℕ} 0 1 = cc in omega arith))

-- ---- bytes that do not count

-- another byte, no quote, outside quotes
count_other : (b c : ℕ) (s : List ℕ) → eqb c b ≡ false → eqb c 39 ≡ false → count_from false b (c ∷ s) ≡ count_from false b s
unfolding count_from
count_other b c s e f = rw (e, f) (omega arith)

pub differ : (test : ℕ → Bool) (b c : ℕ) → test b ≡ false → test c ≡ true → eqb c b ≡ false
differ test b c non is = go (eqb c b) refl
  where
    go : (t : Bool) → eqb c b ≡ t → eqb c b ≡ false
    go false h = h
    go true h = absurd (let e = eqb-true c b h in let f : test c ≡ test b = ap test e in let z : ◌≡◌ {A = ℕ} 0 1 = cc in omega arith)

-- a byte that is no blank, of no bare label or number, no quote and no colon
record Aside (b : ℕ) : Type 0 where
  no_blank : is_blank b ≡ false
  no_bare : is_bare b ≡ false
  no_digit : is_digit b ≡ false
  no_point : eqb 46 b ≡ false
  no_colon : eqb 58 b ≡ false
  no_quote : eqb 39 b ≡ false

-- such a byte stands as often before a token as behind it
module _ (b : ℕ) (a : Aside b) where
  abbrev Even : List ℕ → List ℕ → Type 0
  Even s rest = count_from false b s ≡ count_from false b rest

  even-blanks : {s rest : List ℕ} → Blanks s rest → Even s rest
  even-blanks none = refl
  even-blanks (blank {b = c} {s = s} is d) = count_other b c s (differ is_blank b c a.no_blank is) (differ is_blank 39 c refl is) ∙ even-blanks d

  even-run : (test : ℕ → Bool) {w s rest : List ℕ} → test b ≡ false → test 39 ≡ false → Run test w s rest → Even s rest
  even-run test non no_quote (one {b = c} {rest = rest} is) = count_other b c rest (differ test b c non is) (differ test 39 c no_quote is)
  even-run test non no_quote (next {b = c} {s = s} is d) =
      count_other b c s (differ test b c non is) (differ test 39 c no_quote is) ∙ even-run test non no_quote d

  -- from within quotes to behind them
  even-quoted : {w s rest : List ℕ} → Quoted w s rest → count_from true b s ≡ count_from false b rest
  unfolding count_from
  even-quoted closes = omega arith
  even-quoted (plain {b = c} {s = s} is d) = rw (plain_no_quote c is) (omega (arith, even-quoted d))
  even-quoted (twice d) = rw a.no_quote (omega (arith, even-quoted d))

  even-label : {w s rest : List ℕ} → Spells w s rest → Even s rest
  unfolding count_from
  even-label (bare r) = even-run is_bare a.no_bare refl r
  even-label (quoted d) = rw a.no_quote (omega (arith, even-quoted d))

  even-number : {w s rest : List ℕ} → Number w s rest → Even s rest
  even-number (whole d) = even-run is_digit a.no_digit refl d
  even-number (decimal {mid = mid} d e) =
      even-run is_digit a.no_digit refl d ∙ (count_other b 46 mid a.no_point refl ∙ even-run is_digit a.no_digit refl e)

  even-colon : {Takes : List ℕ → List ℕ → List ℕ → Type 0} {w s rest : List ℕ} → ColonNumber Takes w s rest → Even s rest
  even-colon (colon {s₁ = m} c g n fits) = even-blanks c ∙ (count_other b 58 m a.no_colon refl ∙ (even-blanks g ∙ even-number n))

  module _ {R : Rules} where
    even-numbers : {d c s rest : List ℕ} → Numbers R d c s rest → Even s rest
    even-numbers nothing = refl
    even-numbers (distance c) = even-colon c
    even-numbers (both c e) = even-colon c ∙ even-colon e
    even-numbers (support {mid = m} c e) = even-blanks c ∙ (count_other b 58 m a.no_colon refl ∙ even-colon e)

    even-inner : {w s rest : List ℕ} → Inner R w s rest → Even s rest
    even-inner nameless = refl
    even-inner (named c r fits) = even-blanks c ∙ even-label r

-- ---- parentheses

opening_aside : Aside 40
opening_aside = record { no_blank = refl; no_bare = refl; no_digit = refl; no_point = refl; no_colon = refl; no_quote = refl }

closing_aside : Aside 41
closing_aside = record { no_blank = refl; no_bare = refl; no_digit = refl; no_point = refl; no_colon = refl; no_quote = refl }

pub record Evenly (s rest : List ℕ) : Type 0 where
  pub opening : count_from false 40 s ≡ count_from false 40 rest
  pub closing : count_from false 41 s ≡ count_from false 41 rest

evenly : (s rest : List ℕ) → ((b : ℕ) → Aside b → count_from false b s ≡ count_from false b rest) → Evenly s rest
evenly s rest f = record { opening = f 40 opening_aside; closing = f 41 closing_aside }

pub evenly-blanks : {s rest : List ℕ} → Blanks s rest → Evenly s rest
evenly-blanks {s} {rest} d = evenly s rest (λ b a. even-blanks b a d)

pub evenly-label : {w s rest : List ℕ} → Spells w s rest → Evenly s rest
evenly-label {s = s} {rest = rest} d = evenly s rest (λ b a. even-label b a d)

pub evenly-numbers : {R : Rules} {d b s rest : List ℕ} → Numbers R d b s rest → Evenly s rest
evenly-numbers {s = s} {rest = rest} d = evenly s rest (λ b a. even-numbers b a d)

pub evenly-inner : {R : Rules} {w s rest : List ℕ} → Inner R w s rest → Evenly s rest
evenly-inner {s = s} {rest = rest} d = evenly s rest (λ b a. even-inner b a d)

-- what stands before rest closes n parentheses more than it opens
pub record Levelled (n : ℕ) (s rest : List ℕ) : Type 0 where
  pub level : count_from false 40 s + count_from false 41 rest + n ≡ count_from false 41 s + count_from false 40 rest

level-steps : (R : Rules) → Steps R (λ k s t rest. Levelled 0 s rest) (λ k s f rest. Levelled 1 s rest)
unfolding count_from
level-steps R = record {
  at_leaf = λ k i w d b s s₁ s₂ rest bl r known behind.
      let x = evenly-blanks bl in let y = evenly-label r in let z = evenly-numbers behind in record { level = omega arith };
  at_inner = λ k t f w d b s s₁ s₂ s₃ s₄ s₅ rest bl first p comma others q inner behind.
      let x = evenly-blanks bl in let y = evenly-blanks comma in let z = evenly-inner inner in let v = evenly-numbers behind in record { level = omega arith };
  at_single = λ k t w d b s s₁ s₂ s₃ s₄ rest enough bl only p closes inner behind.
      let x = evenly-blanks bl in let y = evenly-blanks closes in let z = evenly-inner inner in let v = evenly-numbers behind in record { level = omega arith };
  at_last = λ k t s s₁ rest only p closes. let x = evenly-blanks closes in record { level = omega arith };
  at_more = λ k t f s s₁ s₂ rest first p comma others q. let x = evenly-blanks comma in record { level = omega arith };
}

pub node-level : {R : Rules} {k : ℕ} {t : Tree} {s rest : List ℕ} → Node R k s t rest → Levelled 0 s rest
node-level {R} d = over_node R (λ k s t rest. Levelled 0 s rest) (λ k s f rest. Levelled 1 s rest) (level-steps R) d
