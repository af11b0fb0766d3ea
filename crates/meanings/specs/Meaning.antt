-- What a refusal says of the text (01, "Tree text" and "Numbers returned"; #103, #113). `given` says whether a threshold is, `most` how many parentheses may be open at once.
use Rattle.std.specs.Prelude.{ℕ, suc, ◌+◌, ◌-◌, ◌≤◌, ◌<◌, max, ◌≡◌, Bool, true, false, List, [], ◌∷◌, ◌++◌, length, get_or, take, drop, eqb, ltb}
use Rattle.clusters.specs.Sets.{Has}
use Rattle.labels.specs.Bytes.{next_label}
use Rattle.labels.specs.Spelling.{Spells}
use Rattle.labels.specs.Labels.{label_bytes, letters, raw_to, told}
use Rattle.labels.specs.Labels.Told.{ended}
use Rattle.trees.specs.Lists.{keep, NoneTwice}
use Rattle.trees.specs.Tree.{Tree, leaves, cluster}
use Rattle.roster.specs.Roster.{position, byte_before, turned_if}
use Rattle.tokens.specs.Tokens.{number_bytes}
use Rattle.tokens.specs.Values.{too_fine}
use Rattle.tokens.specs.Supports.{refuses_fine}
use Rattle.nodes.specs.Grammar.{Rules, strict, lifted, loosest, Blanks, Number, Node, Text}
use Rattle.nodes.specs.Deciding.{next_digit, border, GoesOnAlike}

-- ---- what could stand: the grammar with limits and roster lifted, and where 7 is lifted too with single nodes in parentheses

-- a whole tree text
abbrev pub IsText : Rules → List ℕ → Type 0
IsText R s = (k : ℕ) × (t : Tree) × Text R k s t []

-- a whole node
abbrev pub IsNode : Rules → List ℕ → Type 0
IsNode R s = (k : ℕ) × (t : Tree) × Node R k s t []

-- a whole label, of a leaf or an inner node, blanks before it
abbrev pub IsName : List ℕ → Type 0
IsName s = (w : List ℕ) × (mid : List ℕ) × Blanks s mid × Spells w mid []

-- a whole number, blanks before it
abbrev pub IsNumber : List ℕ → Type 0
IsNumber s = (w : List ℕ) × (mid : List ℕ) × Blanks s mid × Number w mid []

-- behind u any such piece may stand: with one and the same end behind the piece, which does not go on with it, it makes a text by these rules
pub record MayStand (R : Rules) (Piece : List ℕ → Type 0) (u : List ℕ) : Type 0 where
  pub end : List ℕ
  pub apart : next_label end ≡ false
  pub text : (v : List ℕ) → Piece v → IsText R (u ++ v ++ end)

-- a node may stand behind u
abbrev pub NodeMayStand : List ℕ → Type 0
NodeMayStand u = MayStand lifted (IsNode lifted) u

-- a name may stand behind u
abbrev pub NameMayStand : List ℕ → Type 0
NameMayStand u = MayStand lifted IsName u

-- a number may stand behind u
abbrev pub NumberMayStand : List ℕ → Type 0
NumberMayStand u = MayStand lifted IsNumber u

-- all lifted, but the numbers of the last m bytes are no distances: "the b after a node, in `:d:b` or `::b`, is its support" (#113)
abbrev pub distances_before : ℕ → Rules
distances_before m = record {
  leaf_name = λ w i s rest. Unit {0};
  inner_name = λ w s rest. Unit {0};
  distance = λ w s rest. m < length s;
  support = λ w s rest. Unit {0};
  fewest = 2;
}

-- a support may stand behind u: with any number there, and one and the same end, which does not go on with it, it makes a text in which that number is no distance
pub record SupportMayStand (u : List ℕ) : Type 0 where
  pub end : List ℕ
  pub apart : next_label end ≡ false
  pub text : (v : List ℕ) → IsNumber v → IsText (distances_before (length (v ++ end))) (u ++ v ++ end)

-- the bytes of s before e begin some text by these rules, in which a label or number that has ended there, by the byte at e or by the end of s, has ended
pub record Begins (R : Rules) (s : List ℕ) (e : ℕ) : Type 0 where
  pub more : List ℕ
  pub alike : GoesOnAlike (byte_before s e) more (drop e s)
  pub text : IsText R (take e s ++ more)

-- all lifted that 4 to 9 and 18 name: "but for the fault they name"
abbrev pub CouldBegin : List ℕ → ℕ → Type 0
CouldBegin s d = Begins loosest s d

-- ---- what is kept before a place

-- the bytes of a token, which goes from s up to rest, that stand before the place; m bytes of the text stand behind it
abbrev pub part_before : ℕ → List ℕ → List ℕ → List ℕ
part_before m s rest = take (length s - max m (length rest)) s

-- of each label at most fifteen decoded bytes stand before the place, of each number at most twelve bytes, every leaf's label that has ended there is on the roster,
-- and no support that has ended there is refused
abbrev pub kept_to : Bool → List (List ℕ) → ℕ → Rules
kept_to given names m = record {
  leaf_name = λ w i s rest. (length (letters (part_before m s rest)) ≤ label_bytes) × (m ≤ length rest → (position w names ≡ i) × (i < length names));
  inner_name = λ w s rest. length (letters (part_before m s rest)) ≤ label_bytes;
  distance = λ w s rest. length (part_before m s rest) ≤ number_bytes;
  support = λ w s rest. (length (part_before m s rest) ≤ number_bytes) × (m ≤ length rest → refuses_fine given w ≡ false);
  fewest = 2;
}

-- those leaves of a tree that are species of the roster
abbrev pub known : List (List ℕ) → Tree → List ℕ
known names t = keep (λ i. ltb i (length names)) (leaves t)

-- nothing is at fault before the place d: the bytes before it begin a text of the grammar, the text not yet over, in which every label and number that has ended there keeps its limit,
-- one still open there has at most fifteen decoded bytes (twelve for a number) before it, at most `most` parentheses are open, every leaf's label that has ended there is on the roster,
-- no two are the same, and, where a threshold is given, no support that has ended there has more than three decimals
pub record Kept (given : Bool) (names : List (List ℕ)) (most : ℕ) (s : List ℕ) (d : ℕ) : Type 0 where
  pub inside : d ≤ length s
  pub more : List ℕ
  pub unended : 1 ≤ length more
  pub alike : GoesOnAlike (byte_before s d) more (drop d s)
  pub tree : Tree
  pub text : Text (kept_to given names (length more)) most (take d s ++ more) tree []
  pub once : NoneTwice (known names tree)

-- the fault is met at the border e: nothing is at fault before any place up to it, and something is before e
pub record FirstMet (given : Bool) (names : List (List ℕ)) (most : ℕ) (s : List ℕ) (e : ℕ) : Type 0 where
  pub kept : (x : ℕ) → x < e → Kept given names most s x
  pub lost : Kept given names most s e → ⊥

-- ---- bytes

-- the byte b stands at d
abbrev pub ByteAt : List ℕ → ℕ → ℕ → Type 0
ByteAt s d b = (d < length s) × (get_or s d 0 ≡ b)

-- n more, or none
abbrev pub extra : Bool → ℕ → ℕ
extra true n = n
extra false n = 0

-- one where the byte counts: it is b, outside quotes
abbrev pub counts_by : Bool → Bool → ℕ
counts_by true same = 0
counts_by false same = extra same 1

-- how often the byte b stands in s, quoted labels passed over; `quoted` says whether s begins within quotes
unfoldable pub count_from : Bool → ℕ → List ℕ → ℕ
count_from quoted b [] = 0
count_from quoted b (c ∷ s) = counts_by quoted (eqb c b) + count_from (turned_if (eqb c 39) quoted) b s

-- "open parentheses at once": those opened less those closed
unfoldable pub opens : List ℕ → ℕ
unfolding count_from
opens u = count_from false 40 u - count_from false 41 u

-- ---- what each number says of the text s and the byte d at fault

-- "3 | byte not allowed here | that byte": with it no text could begin, whatever other numbers name is lifted:
-- "7, 8 and 9 are for bytes that could stand there but for the fault they name, otherwise it is 3"
pub record Stray (s : List ℕ) (d : ℕ) : Type 0 where
  pub inside : d < length s
  pub not_allowed : CouldBegin s (suc d) → ⊥

-- "4 | sixteenth byte of a name": "4 counts decoded bytes, its place the first raw byte of the sixteenth" (#103); the label begins at c
pub record LongName (s : List ℕ) (d : ℕ) : Type 0 where
  pub c : ℕ
  pub sixteenth : d ≡ c + raw_to label_bytes (drop c s)
  pub allowed : NameMayStand (take c s)
  pub long : label_bytes < length (letters (drop c s))

-- "thirteenth of a number": the number begins at c, and its thirteen bytes up to d begin a number
pub record LongNumber (s : List ℕ) (d : ℕ) : Type 0 where
  pub c : ℕ
  pub thirteenth : d ≡ c + number_bytes
  pub inside : d < length s
  pub allowed : NumberMayStand (take c s)
  pub more : List ℕ
  pub all_number : Number (take (suc number_bytes) (drop c s) ++ more) (take (suc number_bytes) (drop c s) ++ more) []

-- a leaf's label stands at d, without a fault of its own
pub record LeafAt (s : List ℕ) (d : ℕ) : Type 0 where
  pub allowed : NodeMayStand (take d s)
  pub begins : next_label (drop d s) ≡ true
  pub bytes : ℕ
  pub ends : told (drop d s) ≡ ended bytes

-- "5 | leaf's name not on the roster | its first byte"
pub record UnknownName (names : List (List ℕ)) (s : List ℕ) (d : ℕ) : Type 0 where
  pub leaf : LeafAt s d
  pub unknown : position (letters (drop d s)) names ≡ length names

-- "6 | leaf's name already used | its first byte": it was met at c; "Names are .. compared" decoded (#103)
pub record RepeatedName (names : List (List ℕ)) (s : List ℕ) (d : ℕ) : Type 0 where
  pub leaf : LeafAt s d
  pub known : position (letters (drop d s)) names < length names
  pub c : ℕ
  pub earlier : c < d
  pub met : LeafAt s c
  pub same_name : letters (drop c s) ≡ letters (drop d s)

-- "7 | `)` closes a single child | the `)`": behind a `(` stands one node and blanks; "for bytes that could stand there but for the fault":
-- with single nodes in parentheses, it could
pub record SingleChild (s : List ℕ) (d : ℕ) : Type 0 where
  pub closes : ByteAt s d 41
  pub before : List ℕ
  pub within : List ℕ
  pub opened : take d s ≡ before ++ 40 ∷ within
  pub allowed : NodeMayStand before
  pub k : ℕ
  pub child : Tree
  pub behind : List ℕ
  pub one : Node lifted k within child behind
  pub gap : Blanks behind []
  pub could : CouldBegin s (suc d)

-- "8 | sixteenth open parenthesis | the `(`": it could stand there, and as many are open as may be at once; "8 is for the thirty-second parenthesis" (#110) where that is more
pub record TooDeep (most : ℕ) (s : List ℕ) (d : ℕ) : Type 0 where
  pub opening : ByteAt s d 40
  pub allowed : NodeMayStand (take d s)
  pub full : opens (take d s) ≡ most

-- "9 | `;` with a species missing | the `;`": the text up to it is a tree of the grammar, limits and roster kept, each species at most once, without a needed species
pub record Missing (given : Bool) (names : List (List ℕ)) (most needed : ℕ) (s : List ℕ) (d : ℕ) : Type 0 where
  pub ends : ByteAt s d 59
  pub tree : Tree
  pub drawn : Text (strict given names) most (take (suc d) s) tree []
  pub once : NoneTwice (leaves tree)
  pub species : ℕ
  pub wanted : Has needed species
  pub absent : Has (cluster tree) species → ⊥

-- "10 | text ends first | text length"
pub record EndsFirst (s : List ℕ) (d : ℕ) : Type 0 where
  pub end : d ≡ length s

-- "18 .. for a support with more than three decimals, place its first byte" (#113): a support may stand there, and the number that does, within its limit, has them
pub record FineSupport (s : List ℕ) (d : ℕ) : Type 0 where
  pub allowed : SupportMayStand (take d s)
  pub bytes : List ℕ
  pub rest : List ℕ
  pub number : Number bytes (drop d s) rest
  pub ends : next_digit rest ≡ false
  pub short : length bytes ≤ number_bytes
  pub fine : too_fine bytes ≡ true

-- what a refusal by this number at the byte d says; no other number refuses a tree text
pub data Means (given : Bool) (names : List (List ℕ)) (most needed : ℕ) (s : List ℕ) (d : ℕ) : ℕ → Type 0 where
  stray : Stray s d → Means given names most needed s d 3
  long_name : LongName s d → Means given names most needed s d 4
  long_number : LongNumber s d → Means given names most needed s d 4
  unknown_name : UnknownName names s d → Means given names most needed s d 5
  repeated_name : RepeatedName names s d → Means given names most needed s d 6
  single_child : SingleChild s d → Means given names most needed s d 7
  too_deep : TooDeep most s d → Means given names most needed s d 8
  missing : Missing given names most needed s d → Means given names most needed s d 9
  ends_first : EndsFirst s d → Means given names most needed s d 10
  fine_support : given ≡ true → FineSupport s d → Means given names most needed s d 18

-- a refusal at place q of the text s, which begins at place p: the number has its meaning there, and it is the first fault met
pub record Refusal (given : Bool) (names : List (List ℕ)) (most needed : ℕ) (s : List ℕ) (p number q : ℕ) : Type 0 where
  pub byte : ℕ
  pub place : q ≡ p + byte
  pub means : Means given names most needed s byte number
  pub first : FirstMet given names most s (border number s byte)
