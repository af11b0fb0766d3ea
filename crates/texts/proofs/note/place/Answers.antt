-- The cluster is one of the record's, so it is found.
use mathlib.Core.Path.{◌≡◌, refl}
use native.Mathlib.Omega.{arith}
use Rattle.texts.proofs.Noted.{Found, listed_found}
use Rattle.texts.proofs.note.place.Goals.{After-position-before}
use Rattle.texts.proofs.note.place.Goals as goal

found :
    (c : After-position-before)
    → Found c.args.numbers.now c.args.cluster c.position-before.result
found c =
    listed_found c.requires.valid.form c.requires.among c.from-m.ensures c.position-before.ensures

pub unwrap-requires : goal.unwrap-requires
unwrap-requires c =
    rw (found (goal.at.unwrap-requires c).After-position-before).is refl

pub returns : goal.returns
returns c =
    let f = found (goal.at.returns c).After-position-before in
    let same : c.unwrap.result ≡ f.before = cc in
    let last = f.last in
    (omega arith, omega arith, rw same f.there)
