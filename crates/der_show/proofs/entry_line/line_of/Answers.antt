use Rattle.std.proofs.Common.{◌∙◌}
use Rattle.der_show.specs.Shown.{IsJsonLine}
use Rattle.der_show.proofs.Texts.{if_ok}
use Rattle.der_show.proofs.entry_line.line_of.Goals as goal

pub returns-in_ok-value-in-Json-Element : goal.returns-in_ok-value-in-Json-Element
returns-in_ok-value-in-Json-Element c =
    rw (c.in-Json-Element.is-0, c.in-Json-Element.is-1)
    (if_ok c.json_of_element.result (λ line e. IsJsonLine.element _ _ _ _ e) c.json_of_element.ensures)

pub returns-in-Json-Complaint : goal.returns-in-Json-Complaint
returns-in-Json-Complaint c =
    rw (c.in-Json-Complaint.is-0, c.in-Json-Complaint.is-1)
    (if_ok c.json_of_complaint.result (λ line e. IsJsonLine.complaint _ _ _ _ e) c.json_of_complaint.ensures)

pub returns-in_ok-words-in-Coloured-Element : goal.returns-in_ok-words-in-Coloured-Element
returns-in_ok-words-in-Coloured-Element c =
    let front = c.in_ok-front-in-Coloured-Element.ensures in
    rw (c.in-Coloured-Element.is-0, c.in-Coloured-Element.is-1)
    (if_ok c.coloured.result (λ line e. record {
      words = _;
      one_line = c.in_ok-words-in-Coloured-Element.ensures;
      is =
          rw (c.deref.ensures ∙ front, c.deref-in-Coloured-Element.ensures) at e;
    }) c.coloured.ensures)

pub returns-in_ok-words-in-Coloured-Complaint : goal.returns-in_ok-words-in-Coloured-Complaint
returns-in_ok-words-in-Coloured-Complaint c =
    let front = c.in_ok-front-in-Coloured-Complaint.ensures in
    rw (c.in-Coloured-Complaint.is-0, c.in-Coloured-Complaint.is-1)
    (if_ok c.coloured-in-Coloured-Complaint.result
    (λ line e. record {
      words = _;
      one_line = c.in_ok-words-in-Coloured-Complaint.ensures;
      is =
          rw (c.deref-in-Coloured-Complaint.ensures ∙ front, c.deref-in-Coloured-Complaint-2.ensures) at e;
    })
    c.coloured-in-Coloured-Complaint.ensures)
