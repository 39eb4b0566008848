use Rattle.std.proofs.Common.{None, [], if◌then◌else◌, refl, subst}
use Rattle.std.specs.Io.KnownBytes.{Appends}
use Rattle.std.proofs.KnownBytes.{Appends-nil}
use Rattle.std.proofs.lemmas.Result.{IfOk-weaker}
use Rattle.der_program_base.specs.declared.contents.Contents.TheVariants.{Der, Pem, Other}
use Rattle.der_program_base.specs.Contents.{IsContentsOf}
use Rattle.der_show.specs.declared.options.Source.{Source}
use Rattle.der.specs.Report.{front_text}
use Rattle.der.proofs.Reports.{reported, prints_after, prints_before}
use Rattle.der.proofs.report.print_report.Goals as goal
use Rattle.der.proofs.report.print_report.Goals.{then-view+in_ok-print_heading-in-Der, else-view}

pub returns-after-view : goal.returns-after-view
returns-after-view g c =
    let source : Source = record { file = c.args.file; block = None } in
    let are = subst (IsContentsOf c.args.request.now.form c.args.input.now) c.in-Der.is c.in_ok-contents_of.ensures in
    let front : Appends (g.W.WriteExt.written c.args.output.now) (g.W.WriteExt.written c.if-view.output)
    (if c.args.view.has_headings then front_text c.args.request.now source None else []) =
    elim c.if-view.branch [
      | then-view+in_ok-print_heading-in-Der w
          ↦ rw (w.if-view.true, w.output-is) w.in_ok-print_heading-in-Der.ensures
      | else-view w
          ↦ rw (w.if-view.false, w.output-is) (Appends-nil _)
    ] in
    IfOk-weaker c.print_message.result _ _
    (λ status h. reported c.args.request.now c.args.view source c.args.file.now c.args.input.now Der status _ _ refl
    refl are
    (prints_after _ _ _ _ _ front h))
    c.print_message.ensures

pub returns-in_ok-print_skipped-in-Pem : goal.returns-in_ok-print_skipped-in-Pem
returns-in_ok-print_skipped-in-Pem g c =
    let source : Source = record { file = c.args.file; block = None } in
    let are = subst (IsContentsOf c.args.request.now.form c.args.input.now) c.in-Pem.is c.in_ok-contents_of.ensures in
    reported c.args.request.now c.args.view source c.args.file.now c.args.input.now (Pem c.in-Pem.blocks)
    c.in_ok-status-in-Pem.status _ _ refl refl are
    (prints_before _ _ _ _ _ (rw c.deref.ensures.value at c.in_ok-status-in-Pem.ensures)
    c.in_ok-print_skipped-in-Pem.ensures)

pub returns-in-Other : goal.returns-in-Other
returns-in-Other g c =
    let source : Source = record { file = c.args.file; block = None } in
    let are = subst (IsContentsOf c.args.request.now.form c.args.input.now) c.in-Other.is c.in_ok-contents_of.ensures in
    IfOk-weaker c.print_refusal.result _ _
    (λ status h. reported c.args.request.now c.args.view source c.args.file.now c.args.input.now
    (Other c.in-Other.guess) status _ _ refl refl are h)
    c.print_refusal.ensures
