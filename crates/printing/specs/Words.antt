-- The words of the program's output, and numbers in decimal digits.
use Rattle.std.specs.Prelude.{ℕ, zero, suc, ◌+◌, ◌/◌, ◌%◌, Bool, true, false, List, [], ◌∷◌, ◌++◌, ltb}

-- `taxa `
abbrev pub taxa_text : List ℕ
taxa_text = 116 ∷ 97 ∷ 120 ∷ 97 ∷ 32 ∷ []

-- ` genes `
abbrev pub genes_text : List ℕ
genes_text = 32 ∷ 103 ∷ 101 ∷ 110 ∷ 101 ∷ 115 ∷ 32 ∷ []

-- `score `
abbrev pub score_text : List ℕ
score_text = 115 ∷ 99 ∷ 111 ∷ 114 ∷ 101 ∷ 32 ∷ []

-- `ties `
abbrev pub ties_text : List ℕ
ties_text = 116 ∷ 105 ∷ 101 ∷ 115 ∷ 32 ∷ []

-- `refused `
abbrev pub refused_text : List ℕ
refused_text = 114 ∷ 101 ∷ 102 ∷ 117 ∷ 115 ∷ 101 ∷ 100 ∷ 32 ∷ []

-- ` at `
abbrev pub at_text : List ℕ
at_text = 32 ∷ 97 ∷ 116 ∷ 32 ∷ []

-- a line feed
abbrev pub newline : List ℕ
newline = 10 ∷ []

-- the last digit, behind those in front of it
abbrev pub digits_by : Bool → List ℕ → ℕ → List ℕ
digits_by true front n = (48 + n) ∷ []
digits_by false front n = front ++ ((48 + n % 10) ∷ [])

-- a number of at most k digits, in decimal, with no zero in front
unfoldable pub digits_to : ℕ → ℕ → List ℕ
digits_to zero n = []
digits_to (suc k) n = digits_by (ltb n 10) (digits_to k (n / 10)) n

-- a number in decimal digits: no number of the machine has more than twenty
unfoldable pub decimal : ℕ → List ℕ
unfolding digits_to
decimal n = digits_to 20 n
