-- `terms::allowing::first_strange` meets its contract: the places from 0 on are looked at, each with its byte.
use Rattle.std.proofs.Common.{◌≡◌, true, false, get_or, nat_lt, rules}
use Rattle.std.proofs.lemmas.Iterator.{first_from_Range}
use Rattle.terms.proofs.Refusing.{strange_first}
use Rattle.terms.proofs.allowing.first_strange.Goals as goal

pub returns : goal.returns
returns c =
    let bytes = c.args.bytes.now in
    let first =
    first_from_Range _ _ _ c.find.result (λ place. nat_lt 1 (get_or bytes place 0) ≡ true) (λ place. nat_lt 1 (get_or bytes place 0) ≡ false) c.find.ensures.ran
    (λ x q k. search rules) (λ x q k. search rules) in
    strange_first bytes c.find.result first
