use Rattle.der_program_base.proofs.Undone.{same_text, same_text_or_bytes, names_escape, quotes_escape}
use Rattle.der_program_base.proofs.laws.one_text.Goals as goal

pub returns-clause-texts : goal.returns-clause-texts
returns-clause-texts c special = same_text special

pub returns-clause-specials : goal.returns-clause-specials
returns-clause-specials c = record { in_names = names_escape; in_quotes = quotes_escape }

pub returns-clause-bytes : goal.returns-clause-bytes
returns-clause-bytes c = same_text_or_bytes
