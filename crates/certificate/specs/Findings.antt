-- What a part of the check finds (document 01, "Check"): nothing, or a refusal.
use Rattle.isa.specs.Refusals.{Numbered, Ended, done, refused}

abbrev pub Found : Type 0
Found = Ended

pattern abbrev pub passes : Found
passes = done tt

pattern abbrev pub fault : Numbered → Found
fault refusal = refused refusal

-- "The first that applies is given": the first of two parts
abbrev pub and_then : Found → Found → Found
and_then passes more = more
and_then (fault refusal) more = fault refusal
