-- `calls_print::any::print`: the tests come first, then the lines of the entries, then the blank lines behind them.
use Rattle.std.proofs.Common.{ℕ, refl, ap, ◌∙◌, arith}
use Rattle.model.specs.Numbered.{Numbered}
use Rattle.model.specs.Kind.{kind}
use Rattle.model_laws.specs.Handed.{handed}
use Rattle.calls_print.proofs.CallLaws.{print_refused, room, filled, print_broken, print_good}
use Rattle.calls_print.proofs.any.print.Goals as goal

pub entry_lines-requires : goal.entry_lines-requires
entry_lines-requires c =
    let args = c.args in
    let pre = c.requires in
    room (kind args.views args.effect) _ args.page.now _ (c.in_ok-g.ensures args.effect) (pre.0, pre.1) _ refl pre.2

pub returns-in_err-entry_lines : goal.returns-in_err-entry_lines
returns-in_err-entry_lines c =
    let args = c.args in
    let pre = c.requires in
    let lines = c.in_err-entry_lines.ensures in
    ap (λ (r : Numbered ℕ). (r, c.entry_lines.new.page)) (handed _ _ c.from_residual-in_err-entry_lines.ensures.1)
    ∙ print_broken (kind args.views args.effect) _ _ _ (c.in_ok-g.ensures args.effect) (pre.0, pre.1) _ refl _ _ (lines.0, lines.1 args.views) refl

pub blank_lines-requires : goal.blank_lines-requires
blank_lines-requires c =
    let args = c.args in
    let pre = c.requires in
    omega (arith, (filled (kind args.views args.effect) _ args.page.now _ (c.in_ok-g.ensures args.effect) (pre.0, pre.1) _ refl _ c.pages_for-pages.ensures).2, c.entry_lines.auto.page)

pub returns-in_err-g : goal.returns-in_err-g
returns-in_err-g c =
    let args = c.args in
    ap (λ (r : Numbered ℕ). (r, args.page.now)) (handed _ _ c.from_residual.ensures.1) ∙ print_refused (kind args.views args.effect) _ _ _ (c.in_err-g.ensures args.effect) _ refl

pub returns : goal.returns
returns c =
    let args = c.args in
    let pre = c.requires in
    let pages-for = c.pages_for-pages in
    print_good (kind args.views args.effect) _ _ _ (c.in_ok-g.ensures args.effect) (pre.0, pre.1) _ refl _ _ (c.in_ok-entry_lines.ensures.0, c.in_ok-entry_lines.ensures.1 args.views) refl _ pages-for.ensures _ c.blank_lines.ensures
