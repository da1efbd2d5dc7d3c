-- What holds while a certificate is made, for the contracts of the functions inside: every mark is forced, and each
-- part of the work tells whether it changed the marks.
use Rattle.std.specs.Prelude.{ℕ, ◌+◌, ◌-◌, ◌/◌, ◌%◌, ◌≤◌, ◌<◌, ◌≡◌, ◌≢◌, ◌⊎◌, Bool, true, false, cond, ◌||◌, List, [], ◌∷◌, ltb, length, get_or, IfOk, OnOk}
use Rattle.std.specs.Prelude.{Result, Ok, Err}
use Rattle.isa.specs.Sources.{is_named, vector_of, reset_vector}
use Rattle.isa.specs.declared.Source.{Source}
use Rattle.certificate.specs.Marks.{mark_at, Marked, WellFormed, kind_at, need_at}
use Rattle.certificate.specs.Successors.{Successor, listed}
use Rattle.certificate.specs.Links.{Link, Every}
use Rattle.certificate.specs.Rules.{Runs, Lawful}
use Rattle.certificate.specs.Check.{marks_in}
use Rattle.isa.specs.Rom.{is_image, space_of}
use Rattle.maker.specs.declared.Impossible.{Impossible}
use Rattle.maker.specs.declared.Visit.{Visit}
use Rattle.maker.specs.declared.graph.Entry.{Entry}
use Rattle.maker.specs.declared.graph.Link as noted
use Rattle.maker.specs.Reach.{Leads, Reachable, UsesLevels}
use Rattle.maker.specs.Least.{NoneAccepted}

-- a mark that no accepted certificate can do without: its kind is that of a reachable address, its need what a path
-- takes
pub record Forced (image : List ℕ) (wired a mark : ℕ) : Type 0 where
  pub formed : WellFormed mark
  pub reached : Reachable image wired a (mark / 16)
  pub takes : UsesLevels image a (mark / 16) (mark % 16)

-- every mark is forced
pub record Sound (image : List ℕ) (wired : ℕ) (certificate : List ℕ) : Type 0 where
  pub image_length : is_image (length image) ≡ true
  pub size : length certificate ≡ marks_in (length image)
  pub forced : (a : ℕ) → Marked certificate a → Forced image wired a (mark_at certificate a)

-- how far the marks can still rise: it falls with each change
unfoldable pub room : List ℕ → ℕ
room [] = 0
room (m ∷ certificate) = (255 - m) + room certificate

-- whether a part of the work raised marks, or that no certificate can meet the demands
abbrev pub Change : Type 0
Change = Result Bool Impossible

-- what a part of the work tells of the marks before and after: they are the same, and something holds of them; or some
-- have risen; or no certificate is accepted
abbrev pub Told :
    (image : List ℕ) → (wired : ℕ) → (Holds : List ℕ → Type 0) → (before after : List ℕ) → Change → Type 0
Told image wired Holds before after (Ok false) = (after ≡ before) × Holds before
Told image wired Holds before after (Ok true) = room after < room before
Told image wired Holds before after (Err impossible) = NoneAccepted image wired

-- a kind that was marked stays
abbrev pub Kept : (before after : List ℕ) → Type 0
Kept before after = (b : ℕ) → 1 ≤ kind_at before b → kind_at after b ≡ kind_at before b

-- what it tells; every mark is forced afterwards, and the kinds of marks stay
pub record Worked (image : List ℕ) (wired : ℕ) (Holds : List ℕ → Type 0) (before after : List ℕ) (p : Change)
    : Type 0 where
  pub sound : Sound image wired after
  pub told : Told image wired Holds before after p
  pub kept : Kept before after

-- one part of the work, then another
abbrev pub joined : Change → Change → Change
joined (Ok first) (Ok second) = Ok (first || second)
joined (Ok first) (Err impossible) = Err impossible
joined (Err impossible) second = Err impossible

-- an address has no mark, or its mark stands at a place
abbrev pub Outside : (certificate : List ℕ) → (a : ℕ) → Type 0
Outside certificate a = (4096 ≤ a) ⊎ (a + length certificate < 4096)

pub record IsPlace (certificate : List ℕ) (a at : ℕ) : Type 0 where
  pub low : a < 4096
  pub high : 4096 ≤ a + length certificate
  pub at_is : at ≡ a + length certificate - 4096

-- an address has a kind, and at least a need
pub record Meets (a kind need : ℕ) (certificate : List ℕ) : Type 0 where
  pub kind_is : kind_at certificate a ≡ kind
  pub need_least : need ≤ need_at certificate a

-- a kind and a need are demanded at a reachable address from which some path takes that need; what can be met is met
abbrev pub Demanded : (before after : List ℕ) → (a kind need : ℕ) → Change → Type 0
Demanded before after a kind need p =
    (image : List ℕ) (wired : ℕ) → Sound image wired before → Reachable image wired a kind →
    UsesLevels image a kind need
    → Worked image wired (Meets a kind need) before after p × OnOk p (Meets a kind need after)

-- a successor of code takes at most one level
abbrev pub Small : Successor → Type 0
Small s = s.levels ≤ 1

-- the instruction at a leads to a successor
abbrev pub LeadsTo : (image : List ℕ) → (a kind : ℕ) → Successor → Type 0
LeadsTo image a kind s = Leads image a kind s.address s.kind s.levels

-- a successor has its kind
abbrev pub HasKind : (certificate : List ℕ) → Successor → Type 0
HasKind certificate s = kind_at certificate s.address ≡ s.kind

-- the successors of a reachable address are followed, and then have their kinds
abbrev pub Followed : (before after : List ℕ) → (a kind : ℕ) → List Successor → Change → Type 0
Followed before after a kind successors p =
    (image : List ℕ) (wired : ℕ) → Sound image wired before → Reachable image wired a kind
    → Every (LeadsTo image a kind) successors
    → Worked image wired (λ marks. Every (Link marks a) successors) before after p
    × OnOk p (Every (HasKind after) successors)

-- an edge of the program, between addresses that have kinds
pub record Edge (image certificate : List ℕ) (from to levels : ℕ) : Type 0 where
  pub kind_least : 1 ≤ kind_at certificate from
  pub leads : Leads image from (kind_at certificate from) to (kind_at certificate to) levels

-- .. to a successor
abbrev pub EdgeTo : (image certificate : List ℕ) → (a : ℕ) → Successor → Type 0
EdgeTo image certificate a s = Edge image certificate a s.address s.levels

-- the address that an edge leaves, by its number: twice the address, plus its place there, with the first page; after
-- these, with the others, sixteen times the address, counted from FFEh on, plus twice the page, plus the place
unfoldable pub leaves : ℕ → ℕ
leaves e = cond (ltb e 8192) (e / 2) (((e - 8192) / 16 + 4094) % 4096)

-- the number of the first of two edges that leave an address
pub record FirstEdge (from edge : ℕ) : Type 0 where
  pub first : leaves edge ≡ from
  pub second : leaves (edge + 1) ≡ from
  pub numbered : edge + 1 < 40992

-- where it leads, as noted: twice the address, and the levels, plus 1; 0 where it is not noted
abbrev pub link_at : (edges : List Entry) → (e : ℕ) → ℕ
link_at edges e = (get_or edges e (record { link = 0; earlier = 0 })).link

-- nothing is noted
abbrev pub NoEdges : List Entry → Type 0
NoEdges edges = (e : ℕ) → link_at edges e ≡ 0

-- a link is noted
pub record IsLink (edges : List Entry) (e : ℕ) (l : noted.Link) : Type 0 where
  pub noted : link_at edges e ≢ 0
  pub to_is : (link_at edges e - 1) / 2 ≡ l.to
  pub levels_are : (link_at edges e - 1) % 2 ≡ l.levels

-- every link that is noted is an edge of the program
pub record Known (image certificate : List ℕ) (edges : List Entry) : Type 0 where
  pub edge :
      (e : ℕ) → link_at edges e ≢ 0 →
      Edge image certificate (leaves e) ((link_at edges e - 1) / 2) ((link_at edges e - 1) % 2)

-- edges are noted
abbrev pub Recorded : (before after : List Entry) → (from : ℕ) → List Successor → Type 0
Recorded before after from successors =
    (image certificate : List ℕ) → Known image certificate before → Every (EdgeTo image certificate from) successors
    → Known image certificate after

-- where an address is marked, document 01's rules hold there
abbrev pub LawfulAt : (image : List ℕ) → (a : ℕ) → (certificate : List ℕ) → Type 0
LawfulAt image a certificate = Marked certificate a → Lawful image certificate a

-- .. with a page in place
abbrev pub RunsAt : (image : List ℕ) → (page a : ℕ) → (certificate : List ℕ) → Type 0
RunsAt image page a certificate = Marked certificate a → WellFormed (mark_at certificate a)
    × Runs (space_of image page) certificate a

-- what a visit did to the marks
abbrev pub change_of : Result Visit Impossible → Change
change_of (Ok visit) = Ok visit.changed
change_of (Err impossible) = Err impossible

-- an address is visited with a page in place, and edges lead from it to the successors
abbrev pub Visited : (image before after : List ℕ) → (page a : ℕ) → Result Visit Impossible → Type 0
Visited image before after page a p =
    (wired : ℕ) → Sound image wired before
    → Worked image wired (RunsAt image page a) before after (change_of p)
    × IfOk p (λ visit. Every (EdgeTo image after a) (listed visit.successors))

-- .. with every page
abbrev pub VisitedEach : (image before after : List ℕ) → (a : ℕ) → Change → Type 0
VisitedEach image before after a p =
    (wired : ℕ) → Sound image wired before → Worked image wired (LawfulAt image a) before after p

-- .. some addresses, and their edges noted
abbrev pub Explored : (image before after : List ℕ) → (edges edges' : List Entry) → Change → Type 0
Explored image before after edges edges' p =
    (wired : ℕ) → Sound image wired before → Known image before edges
    → Worked image wired (λ marks. Unit) before after p × Known image after edges'

-- some needs are raised over the edges that are noted
abbrev pub Raised : (before after : List ℕ) → (edges edges' : List Entry) → Change → Type 0
Raised before after edges edges' p = (image : List ℕ) → Explored image before after edges edges' p

-- some addresses are visited, in some order: which ones is not promised, since the check decides in the end
abbrev pub Spread : (image before after : List ℕ) → Change → Type 0
Spread image before after p =
    (wired : ℕ) → Sound image wired before → Worked image wired (λ marks. Unit) before after p

-- all addresses are visited
abbrev pub Swept : (image before after : List ℕ) → Change → Type 0
Swept image before after p =
    (wired : ℕ) → Sound image wired before
    → Worked image wired (λ marks. (a : ℕ) → LawfulAt image a marks) before after p

-- a source's vector is a service where the source is wired
abbrev pub SourceKind : (wired : ℕ) → Source → (certificate : List ℕ) → Type 0
SourceKind wired s certificate = is_named wired s ≡ true → kind_at certificate (vector_of s) ≡ 3

-- FFEh is start_up code, and the vectors of the wired sources are services
pub record Seeded (wired : ℕ) (certificate : List ℕ) : Type 0 where
  pub start_up : kind_at certificate reset_vector ≡ 1
  pub vectors : (s : Source) → SourceKind wired s certificate

-- vectors are demanded, whatever the image
abbrev pub Seeds : (wired : ℕ) → (Holds : List ℕ → Type 0) → (before after : List ℕ) → Change → Type 0
Seeds wired Holds before after p =
    (image : List ℕ) → Sound image wired before → Worked image wired Holds before after p

-- all rules hold but the number of levels
abbrev pub Finished : (image : List ℕ) → (wired : ℕ) → (certificate : List ℕ) → Type 0
Finished image wired certificate = Seeded wired certificate × ((a : ℕ) → LawfulAt image a certificate)
