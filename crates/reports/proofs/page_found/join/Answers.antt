-- `page_found::join` meets its contract.
use Rattle.std.proofs.Common.{ℕ, ◌≡◌, ◌-◌, List, ◌++◌, ap, sym, ◌∙◌, arith, length, drop, length-append, length-drop}
use lib.Seq.{length-take-le, take_at}
use borrow.Rule.Slice.PartMut.{put_mid}
use Rattle.options.proofs.ImageLaws.{part_filled}
use Rattle.reports.proofs.page_found.join.Goals as goal

-- the first half copied, then the second
joined :
    (page fixed space one two : List ℕ) → length page ≡ 2048 → length space ≡ 4096 → one ≡ page → two ≡ fixed
    → put_mid 2048 (length (one ++ drop 2048 space) - 2048) (one ++ drop 2048 space) two ≡ page ++ fixed
joined page fixed space one two p s e f =
    let size : length one ≡ 2048 = ap length e ∙ p in
    part_filled (one ++ drop 2048 space) 2048
    (omega (arith, length-append one (drop 2048 space), size, length-drop 2048 space)) fixed two f
    ∙ ap (λ (l : List ℕ). l ++ fixed) (take_at one (drop 2048 space) 2048 size ∙ e)

pub slice_bounds-copy_from_slice-end-2 : goal.slice_bounds-copy_from_slice-end-2
slice_bounds-copy_from_slice-end-2 c = sym (length-take-le 2048 c.args.space.now (omega (arith, c.requires)))

pub copy_from_slice-requires : goal.copy_from_slice-requires
copy_from_slice-requires c =
    length-take-le 2048 c.args.space.now (omega (arith, c.requires)) ∙ sym c.requires.0

pub returns : goal.returns
returns c =
    joined c.args.page.now c.args.fixed.now c.args.space.now _ _ c.requires.0 c.requires.2
    c.copy_from_slice.ensures.after c.copy_from_slice-2.ensures.after
