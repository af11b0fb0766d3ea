-- What 8 says of a text on individuals (#110); why such a text is turned away at all is `TextFaults.StandTextFault`.
use Rattle.std.specs.Prelude.{ℕ, ◌+◌, ◌≡◌, List, take, drop}
use Rattle.meanings.specs.Meaning.{NodeMayStand, ByteAt, opens}

-- "8 is for the thirty-second parenthesis" (#110): at the place q of the text, read from start on, a `(` stands where a node may, and 31 are open before it
pub record ThirtySecondOpens (text : List ℕ) (start q : ℕ) : Type 0 where
  pub byte : ℕ
  pub place : q ≡ start + byte
  pub opening : ByteAt (drop start text) byte 40
  pub allowed : NodeMayStand (take byte (drop start text))
  pub full : opens (take byte (drop start text)) ≡ 31
