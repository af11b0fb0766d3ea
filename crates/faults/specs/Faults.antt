-- The numbers of the faults: "Where an answer is an enum, a definition lists this paper's number and values for each case" (01).
use Rattle.std.specs.Prelude.{ℕ}
use Rattle.faults.specs.declared.Fault.{Fault}
use Rattle.faults.specs.declared.Fault.TheVariants.{FaultyRoster, LongText, StrayByte, LongWord, UnknownName, RepeatedName, SingleChild, TooDeep, MissingSpecies, TextEnds, GeneCount, ShortSlice, NoCluster, NoTree, BadRecord, BadSpeciesRecord, TooLarge, TooFine, Unresolved, FaultyMapping, WrongCount}

-- 01's table "Numbers returned", then what the requests add: 18 (#113), 19 (#106), 20 (#110) and 23 (#114)
abbrev pub number : Fault → ℕ
-- "roster faulty, or n not 1 to 16"
number FaultyRoster = 1
-- "text over 65,536 bytes"
number LongText = 2
-- "byte not allowed here"
number StrayByte = 3
-- "sixteenth byte of a name, thirteenth of a number"
number LongWord = 4
-- "leaf's name not on the roster"
number UnknownName = 5
-- "leaf's name already used"
number RepeatedName = 6
-- "`)` closes a single child"
number SingleChild = 7
-- "sixteenth open parenthesis"
number TooDeep = 8
-- "`;` with a species missing"
number MissingSpecies = 9
-- "text ends first"
number TextEnds = 10
-- "gene trees 0 or over 4,096"
number GeneCount = 11
-- "a lent slice too short"
number ShortSlice = 12
-- "number is no cluster, or allowed byte not 0 or 1"
number NoCluster = 13
-- "no binary tree over the allowed clusters"
number NoTree = 14
-- "a record not valid"
number BadRecord = 15
-- "species record not valid or not binary"
number BadSpeciesRecord = 16
-- "program only: over 12 species or 512 gene trees"
number TooLarge = 17
-- "a support with more than three decimals" (#113)
number TooFine = 18
-- "an unresolved or incomplete tree" (#106)
number Unresolved = 19
-- "a faulty mapping" (#110)
number FaultyMapping = 20
-- "a missing, fractional or wrong count or a second number" (#114)
number WrongCount = 23
