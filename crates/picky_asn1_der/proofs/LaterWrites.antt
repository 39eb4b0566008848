-- Elements in a row, added one by one to a sequence that is being written.
use Rattle.picky_der_core.specs.declared.misc.writer.WriteExt.{Ghosts}
use Rattle.picky_der_core.specs.declared.error.Asn1DerError.{Asn1DerError}
use Rattle.picky_der_core.specs.Tree.{Tree, Trees}
use Rattle.picky_der_ser.specs.State.{Writing}
use Rattle.picky_der_ser.specs.Calls.{AddsAll, RefusesToAddAll, AddsPrepended, RefusesPrepended}

module _ {W : Type 0} (g : Ghosts W) where
  -- where the rest is added, or refused, all of them are
  pub record LeadsTo (rest all : Trees) (old new : Writing W) : Type 0 where
    pub added : (last : Writing W) → AddsAll g rest new last → AddsAll g all old last
    pub refused : (e : Asn1DerError) (last : Writing W) → RefusesToAddAll g rest new e last
        → RefusesToAddAll g all old e last

  pub leads_all : (ts : Trees) (a : Writing W) → LeadsTo ts ts a a
  leads_all ts a = record { added = λ last h. h; refused = λ e last h. h }

  module _ {t : Tree} {rest all : Trees} {old now : Writing W} (h : LeadsTo (Trees.more t rest) all old now) where
    -- the next one was added
    pub leads_next : (new : Writing W) → AddsPrepended g (Trees.more t) now new → LeadsTo rest all old new
    leads_next new a = record {
      added = λ last k. h.added last (a.added rest last k);
      refused =
          λ e last k. h.refused e last (a.refused rest e last k);
    }

    -- it was refused
    pub leads_refused : (new : Writing W) (e : Asn1DerError) → RefusesPrepended g (Trees.more t) now e new
        → RefusesToAddAll g all old e new
    leads_refused new e r = h.refused e new (r rest)
