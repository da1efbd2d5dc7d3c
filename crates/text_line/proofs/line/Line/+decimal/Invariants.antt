-- `Line::decimal` ends: a number's tenth part is smaller where the number has more than one digit.
use Rattle.text_line.proofs.line.Line.+decimal.Given as goal

abbrev pub decreases-decimal : goal.decreases-decimal
decreases-decimal g l = l.n
