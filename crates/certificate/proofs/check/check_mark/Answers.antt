-- `check::check_mark` meets its contract: where the mark has a kind, what is found is by where the instruction continues.
use Rattle.std.proofs.Common.{◌≡◌, ℕ, ◌<◌, ◌++◌, ◌≢◌, List, ap, ◌∙◌, Some, ltb, true, refl}
use Rattle.std.proofs.lemmas.Result.{err_from_is_err_and}
use Rattle.isa.specs.Refusals.{Answer}
use Rattle.isa.specs.Rom.{Halves}
use Rattle.isa.specs.Decode.{decode_of}
use Rattle.isa.specs.FlowAt.{Continuing, continuation_from}
use Rattle.isa.proofs.AtAddress.{in_range}
use Rattle.isa.proofs.Halves.{halves_space}
use Rattle.certificate.specs.Marks.{kind_of, kind_number}
use Rattle.certificate.specs.Passes.{page_found}
use Rattle.certificate.specs.declared.marks.Kind.{Kind}
use Rattle.certificate.specs.declared.marks.Kind.TheVariants.{StartUp, Main, Service, Subroutine}
use Rattle.certificate.proofs.Facts.{continuation_found, by_continuation, marked_page}
use Rattle.certificate.proofs.check.check_mark.Goals as goal

has_number : (kind : Kind) → ltb 0 (kind_number (Some kind)) ≡ true
has_number StartUp = refl
has_number Main = refl
has_number Service = refl
has_number Subroutine = refl

by_flow : (page fixed certificate : List ℕ) (address mark : ℕ) (kind : Kind) {answer : Answer Continuing}
    → mark ≢ 0 → kind_number (Some kind) ≡ kind_of mark → Halves page fixed → address < 4096
    → answer ≡ continuation_from address (decode_of (page ++ fixed) address)
    → page_found (page ++ fixed) certificate address mark ≡ continuation_found certificate address mark answer
by_flow page fixed certificate address mark kind marked kind_is halves fits e =
    rw (
      marked_page _ _ _ _ marked,
      ← kind_is,
      has_number kind,
      by_continuation _ _ _ _,
      ← (e ∙ ap (continuation_from _) (in_range (page ++ fixed) _ (halves_space page fixed halves) fits)),
    )

pub returns-in_err-flow_at : goal.returns-in_err-flow_at
returns-in_err-flow_at c =
    let pre = c.requires in
    let found =
    by_flow c.args.space.page.now c.args.space.fixed.now c.args.certificate.now c.args.address c.args.mark c.in-Some.kind
    c.if-mark-eq0.false c.in-Some.ensures pre.0 pre.1 (c.in_err-flow_at.ensures pre.0 pre.1) in
    let p = err_from_is_err_and c.from_residual.result c.from_residual.ensures.1 in
    rw (found, p.1, p.2)

pub returns : goal.returns
returns c =
    let pre = c.requires in
    let found =
    by_flow c.args.space.page.now c.args.space.fixed.now c.args.certificate.now c.args.address c.args.mark c.in-Some.kind
    c.if-mark-eq0.false c.in-Some.ensures pre.0 pre.1 (c.in_ok-flow_at.ensures pre.0 pre.1) in
    rw found c.check_flow.ensures
