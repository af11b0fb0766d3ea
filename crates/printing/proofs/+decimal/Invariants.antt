use Rattle.printing.proofs.+decimal.Given as goal

-- The measure is the number, of which the call has a tenth.
abbrev pub decreases-decimal : goal.decreases-decimal
decreases-decimal l = l.x
