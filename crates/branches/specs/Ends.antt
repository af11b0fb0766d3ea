-- The nodes of a tree text in the order in which they end (#114): the place of each end, and the count that stands behind it.
use Rattle.std.specs.Prelude.{ℕ, zero, suc, ◌+◌, Bool, true, false, ◌&&◌, ◌||◌, length, drop, eqb, ltb, Option, Some, None}
use mathlib.Core.List.{List, [], ◌∷◌, ◌++◌, tail}
use Rattle.labels.specs.Bytes.{is_digit, is_blank, run, next_is}
use Rattle.trees.specs.Tree.{Tree, Behind}
use Rattle.tokens.specs.Answers.{Answer, and_then}
use Rattle.tokens.specs.Answers.Answer.{parsed, refused}
use Rattle.tokens.specs.Tokens.{name, inner_name}
use Rattle.tokens.specs.Supports.{supported}
use Rattle.tokens.specs.Values.{written}
use Rattle.nodes.specs.Grammar.{Rules, Node, Text}
use Rattle.nodes.specs.Grammar.Node.{a_leaf, an_inner, a_single}
use Rattle.nodes.specs.Grammar.Children.{the_last, with_more}
use Rattle.nodes.specs.Grammar.Text.{text}
use Rattle.branches.specs.declared.Ended.{Ended}

-- ---- where nodes end, by the grammar

-- of each node that is drawn, in the order in which they end, the text "just after its closing parenthesis or, for a leaf, its name" (#114)
unfoldable pub behinds : {R : Rules} {k : ℕ} {s : List ℕ} {t : Tree} {rest : List ℕ} → Node R k s t rest → List (List ℕ)
behinds d =
    elim d as (λ k s t rest d. List (List ℕ)) (λ k s f rest d. List (List ℕ)) [
      | a_leaf {s₂ = behind} gap named known numbers ↦ behind ∷ []
      | an_inner {s₄ = behind} opens (first → l) comma (others → m) inner numbers ↦ l ++ m ++ (behind ∷ [])
      | a_single enough opens (only → l) closes inner numbers ↦ l
      | the_last (only → l) closes ↦ l
      | with_more (first → l) comma (others → m) ↦ l ++ m
    ]

-- the same of a whole tree
unfoldable pub behinds_of : {R : Rules} {k : ℕ} {s : List ℕ} {t : Tree} {rest : List ℕ} → Text R k s t rest → List (List ℕ)
behinds_of (text root ends) = behinds root

-- ---- where nodes end, as they are found from the left

-- a node that ends: "place the byte just after its closing parenthesis or, for a leaf, its name" (#114), and what is written behind it
pub record End : Type 0 where
  pub place : ℕ
  pub behind : Behind

-- what stands between the end of a node and what ends the next: blanks, `(` and `,`
abbrev pub is_lead : ℕ → Bool
is_lead b = is_blank b || eqb b 40 || eqb b 44

-- how many such bytes stand at the front
unfoldable pub lead : List ℕ → ℕ
lead s = run is_lead s

-- a node that ends at this place, with the numbers behind it; w is the name that stood before them
abbrev pub ends_at : ℕ → List ℕ → List ℕ → ℕ → Answer End
ends_at place w s p = and_then (supported false w s p) (λ b rest next. parsed (record { place = place; behind = b }) rest next)

-- a closing parenthesis, or a leaf's name
abbrev pub next_end_by : Bool → List ℕ → ℕ → Answer End
next_end_by true s p = and_then (inner_name (tail s) (p + 1)) (λ w rest q. ends_at (p + 1) w rest q)
next_end_by false s p = and_then (name s p) (λ w rest q. ends_at q [] rest q)

-- the next node to end, from s on, which begins at p
unfoldable pub next_end : List ℕ → ℕ → Answer End
next_end s p = next_end_by (next_is 41 (drop (lead s) s)) (drop (lead s) s) (p + lead s)

-- a first end, and then the others
abbrev pub end_then : Answer End → (List ℕ → ℕ → List End) → List End
end_then (parsed e s p) others = e ∷ others s p
end_then (refused number place) others = []

-- the next m nodes to end
unfoldable pub ends_from : ℕ → List ℕ → ℕ → List End
ends_from zero s p = []
ends_from (suc m) s p = end_then (next_end s p) (λ s p. ends_from m s p)

-- ---- the count behind a node

-- "A count is digits without a point" (#114): one at the least, and nothing else
unfoldable pub is_count : List ℕ → Bool
is_count d = ltb 0 (length d) && eqb (run is_digit d) (length d)

-- a node has no count where d is none, or where b is "a second number" (#114)
abbrev pub count_by : Bool → List ℕ → List ℕ → Option ℕ
count_by true d [] = Some (written d)
count_by true d (b ∷ bs) = None
count_by false d bs = None

-- the count that is written behind a node: "one whole number after a colon" (#114)
unfoldable pub count_in : Behind → Option ℕ
count_in b = count_by (is_count b.distance) b.distance b.support

-- ---- what `next_end` answers

-- an end with its count, if it has one, and where reading goes on
abbrev pub counted_as : Option ℕ → ℕ → ℕ → Ended
counted_as count place next = record { place = place; count = count; next = next }

-- the next end; at the end of the text, which has n bytes, where none is read
abbrev pub ended_as : ℕ → Answer End → Ended
ended_as n (parsed e rest next) = counted_as (count_in e.behind) e.place next
ended_as n (refused number place) = counted_as None n n
