-- All bytes are tested.
use mathlib.Core.Path.{refl}
use borrow.Author.Rules.{rules}
use Rattle.std.proofs.lemmas.List.Recursion.{and_is}
use Rattle.labels.specs.Writing.{is_free, may_be_bare}
use Rattle.texts.proofs.forms.may_be_bare.Goals as goal

pub returns : goal.returns
unfolding may_be_bare
returns c = and_is may_be_bare is_free refl (λ _ _. refl) c.args.name.now 0 _ (search rules) (search rules)
