-- What the code's answers say of the text: the number and the place of a fault, or what was read and where reading goes on.
use Rattle.std.specs.Prelude.{ℕ, ◌+◌, ◌-◌, ◌≡◌, Bool, true, false, List, [], ◌∷◌, length, take, drop, ltb, None, Some, Result, Ok, Err}
use Rattle.faults.specs.Faults.{number}
use Rattle.faults.specs.declared.Fault.TheVariants.{StrayByte, TextEnds, TooFine}
use Rattle.faults.specs.declared.Refusal.{Refusal}
use Rattle.labels.specs.Bytes.{next_label}
use Rattle.labels.specs.Labels.{letters}
use Rattle.labels.specs.declared.Scanned.{Scanned}
use Rattle.trees.specs.Tree.{Behind}
use Rattle.tokens.specs.Answers.{Answer}
use Rattle.tokens.specs.Answers.Answer.{parsed, refused}
use Rattle.tokens.specs.Tokens.{skip}
use Rattle.tokens.specs.Values.{Value, thousandths}
use Rattle.tokens.specs.Supports.{Threshold}
use Rattle.tokens.specs.declared.answer.Figure.{Figure}
use Rattle.tokens.specs.declared.answer.Figures.{Figures}

-- a fault's number and place, as an answer
abbrev pub refusal : {A : Type 0} → Refusal → Answer A
refusal e = refused (number e.fault) e.place

-- "10 | text ends first" or "3 | byte not allowed here"
abbrev pub stray_at : List ℕ → ℕ → Refusal
stray_at [] p = record { fault = TextEnds; place = p }
stray_at (b ∷ s) p = record { fault = StrayByte; place = p }

-- the bytes of a number in the text
abbrev pub between : List ℕ → Figure → List ℕ
between text f = take (f.to - f.from) (drop f.from text)

-- "yields whole thousandths, .., in everything that reads tree text" (#113): a number's value is that of its bytes, and these stand between its places
abbrev pub Valued : List ℕ → Figure → Type 0
Valued text f = (f.value ≡ thousandths (between text f)) × (f.to ≡ f.from + length (between text f))

-- a number was read, or a fault was met
abbrev pub number_says : List ℕ → Result Figure Refusal → Answer (List ℕ)
number_says text (Ok f) = parsed (between text f) (drop f.to text) f.to
number_says text (Err e) = refusal e

-- a number that was read has its value
abbrev pub number_valued : List ℕ → Result Figure Refusal → Type 0
number_valued text (Ok f) = Valued text f
number_valued text (Err e) = Unit {0}

-- the numbers behind a node were read, or a fault was met; w is the node's name
abbrev pub behind_says : List ℕ → List ℕ → Result Figures Refusal → Answer Behind
behind_says text w (Ok e) =
    parsed (record { name = w; distance = between text e.distance; support = between text e.support }) (drop e.next text) e.next
behind_says text w (Err e) = refusal e

-- both numbers behind a node have their values, and they end where the support does, which has no bytes where none is written
abbrev pub behind_valued : List ℕ → Result Figures Refusal → Type 0
behind_valued text (Ok e) = Valued text e.distance × Valued text e.support × (e.next ≡ e.support.to)
behind_valued text (Err e) = Unit {0}

-- by a number's value: it has bytes and no value, so more than three decimals
abbrev pub fine_by : Value → ℕ → ℕ → Bool
fine_by (Some n) from to = false
fine_by None from to = ltb from to

-- the support is too fine
abbrev pub fine_figure : Figure → Bool
fine_figure f = fine_by f.value f.from f.to

-- refused by 18 at its first byte, or not
abbrev pub fine_as : Bool → Figures → Result Figures Refusal
fine_as true e = Err (record { fault = TooFine; place = e.support.from })
fine_as false e = Ok e

-- what was read behind a node, its support judged where a threshold is given
abbrev pub judged_as : Threshold → Figures → Result Figures Refusal
judged_as None e = Ok e
judged_as (Some amount) e = fine_as (fine_figure e.support) e

-- the name w was read, or a label is at fault
abbrev pub name_says : List ℕ → List ℕ → Result ℕ Refusal → Answer (List ℕ)
name_says text w (Ok next) = parsed w (drop next text) next
name_says text w (Err e) = refusal e

-- the same of a label that was scanned
abbrev pub label_says : List ℕ → List ℕ → Result Scanned Refusal → Answer (List ℕ)
label_says text w (Ok s) = parsed w (drop s.next text) s.next
label_says text w (Err e) = refusal e

-- the name behind a closing parenthesis, empty where none stands there
abbrev pub inner_word_by : Bool → List ℕ → List ℕ
inner_word_by false s = []
inner_word_by true s = letters (skip s)

-- the inner name that stands at the front, if any
unfoldable pub inner_word : List ℕ → List ℕ
inner_word s = inner_word_by (next_label (skip s)) s
