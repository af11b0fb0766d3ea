-- "promises .. a single outcome": two replies of a call on a stand, and what they leave in the tables, are equal where both meet its promise.
use Prim.Native.Nat.{ℕ}
use mathlib.Core.Path.{◌≡◌, sym, ◌∙◌}
use mathlib.Core.List.{List}
use Rattle.roster.specs.declared.Reply.{Reply}
use Rattle.terms.specs.declared.Found.{Found}
use Rattle.stand.specs.Promise.{StandJudged, StandWeighs, StandScores, StandFinds}

pub judged-once : (line individuals mapping : List ℕ) (r q : Reply) → StandJudged line individuals mapping r → StandJudged line individuals mapping q → r ≡ q
unfolding StandJudged
judged-once line individuals mapping r q p s = p ∙ sym s

pub weighed-once : (line individuals mapping genes : List ℕ) (count a : ℕ) (r q : Reply) → StandWeighs line individuals mapping genes count a r
    → StandWeighs line individuals mapping genes count a q → r ≡ q
unfolding StandWeighs
weighed-once line individuals mapping genes count a r q p s = p ∙ sym s

pub scored-once : (line individuals mapping genes : List ℕ) (count : ℕ) (species : List ℕ) (r q : Reply) → StandScores line individuals mapping genes count species r
    → StandScores line individuals mapping genes count species q → r ≡ q
unfolding StandScores
scored-once line individuals mapping genes count species r q p s = p ∙ sym s

pub found-once : {line individuals mapping genes : List ℕ} {count : ℕ} {allowed scores splits : List ℕ} {r q : Found} {s p s' p' : List ℕ}
    → StandFinds line individuals mapping genes count allowed scores splits r s p → StandFinds line individuals mapping genes count allowed scores splits q s' p'
    → (r ≡ q) × (s ≡ s') × (p ≡ p')
found-once f g = (f.reply ∙ sym g.reply, f.score_table ∙ sym g.score_table, f.split_table ∙ sym g.split_table)
