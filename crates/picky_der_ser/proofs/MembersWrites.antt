-- Members, added to a list that is being written.
use Rattle.std.proofs.Common.{◌≡◌, List, [], ◌∷◌, ◌++◌, None, refl, sym, ap, ◌∙◌, subst, Result, Ok, Err}
use Rattle.std.proofs.Common.{IfErr}
use Rattle.std.specs.Prelude.{IfNone, OnOk}
use Rattle.picky_der_core.specs.OpenWrappers.{under}
use Rattle.picky_der_core.specs.declared.misc.writer.WriteExt.{Ghosts}
use Rattle.picky_der_core.specs.declared.error.Asn1DerError.{Asn1DerError}
use Rattle.picky_der_core.specs.declared.asn1.wrapper.Wrapper.{Wrapper}
use Rattle.picky_der_core.specs.Tree.{ListKind, Tree, Trees}
use Rattle.picky_der_core.specs.Encoding.{tree_bytes, encodings, der}
use Rattle.picky_der_core.specs.Readable.{IsWritable}
use Rattle.picky_der_ser.specs.State.{State, Level, Writing, with_member, with_members}
use Rattle.picky_der_ser.specs.Calls.{AreWritable, MemoryExcuse, RefusesWrite, AddsMember, AddsMembers, AddsAll}
use Rattle.picky_der_ser.specs.Calls.{RefusesToAddAll, AddsPrepended}
use Rattle.picky_der_ser.proofs.Alike.{excuse_of_part}
use Rattle.picky_der_ser.proofs.ListBytes.{before, before_next, member_writable}
use Rattle.picky_der_ser.proofs.MemberWrites.{Awaits, list_gained, list_stopped}

-- a member, and the members after it
members_after : (l : Level) (t : Tree) (ts : Trees)
    → with_members (with_member l (der t)) (encodings ts) ≡ with_members l (encodings (Trees.more t ts))
unfolding der tree_bytes
members_after l t ts = refl

one_member : (l : Level) (t : Tree) → with_members l (encodings (Trees.more t Trees.none)) ≡ with_member l (der t)
unfolding der tree_bytes
one_member l t = refl

-- a list is written only if its last members are
members_writable : (ws : List Wrapper) (kind : ListKind) (ts : List Tree) (us : Trees)
    → IsWritable (under ws (Tree.list kind (before ts us))) → AreWritable us
members_writable ws kind ts Trees.none h = tt
members_writable ws kind ts (Trees.more t us) h = (
  member_writable ws kind ts t us h,
  members_writable ws kind (ts ++ (t ∷ [])) us
      (subst (λ v. IsWritable (under ws (Tree.list kind v))) (before_next ts t us) h),
)

module _ {W : Type 0} where
  -- the sequence with this level
  abbrev with_level : Writing W → Level → Writing W
  with_level now l = record { sink = now.sink; failed = None; inside = now.inside; level = l }

module _ {W : Type 0} (g : Ghosts W) where
  -- ---- what the calls for one member and for the members after it do together

  -- all of them were added
  all_gained : {t : Tree} {old between : Writing W} (ts : Trees) (new : Writing W) → AddsMember g t old between
      → AddsAll g ts between new → AddsMembers g (Trees.more t ts) old new
  all_gained {t} {old} {between} Trees.none new a h = record {
    had_not_failed = a.had_not_failed;
    writable = (a.writable, tt);
    added = h ∙ a.added ∙ ap (with_level old) (sym (one_member old.level t));
  }
  all_gained {t} {old} {between} (Trees.more u us) new a h =
      let all = Trees.more u us in
      let rest : new ≡ with_level old (with_members (with_member old.level (der t)) (encodings all)) =
      h.added ∙ ap (λ (s : Writing W). with_level s (with_members s.level (encodings all))) a.added in
      record {
        had_not_failed = a.had_not_failed;
        writable = (a.writable, h.writable);
        added = rest ∙ ap (with_level old) (members_after old.level t all);
      }

  -- one after the first was
  all_stopped : {t : Tree} {old between : Writing W} {e : Asn1DerError} (ts : Trees) (new : Writing W)
      → AddsMember g t old between → RefusesToAddAll g ts between e new → RefusesToAddAll g (Trees.more t ts) old e new
  all_stopped Trees.none new a h = absurd h
  all_stopped {t} {old} {between} {e} (Trees.more u us) new a h =
      let sink : between.sink ≡ old.sink = ap (λ (s : Writing W). s.sink) a.added in
      let failed : between.failed ≡ None = ap (λ (s : Writing W). s.failed) a.added in
      record {
        failed = h.failed;
        same = h.same ∙ sink;
        again = rw a.had_not_failed tt;
        reason =
            rw a.had_not_failed
            (excuse_of_part (λ w. w.1) (subst (λ o. IfNone o (MemoryExcuse (AreWritable (Trees.more u us)) e)) failed
            h.reason));
      }

  -- a member comes before others
  pub members_leads : {T : Type 0} (r : Result T Asn1DerError) (t : Tree) (old between : Writing W)
      → OnOk r (AddsMember g t old between) → OnOk r (AddsPrepended g (Trees.more t) old between)
  members_leads (Ok v) t old between a = record {
    added = λ ts last h. all_gained ts last a h;
    refused = λ ts e last h. all_stopped ts last a h;
  }
  members_leads (Err e) t old between a = tt

  -- ---- what the calls for what comes in front and for the members after it do together

  pub members_continue : {T : Type 0} (r : Result T Asn1DerError) (ts : Trees) (new : Writing W) {prepend : Trees
      → Trees} {old between : Writing W} → AddsPrepended g prepend old between → OnOk r (AddsAll g ts between new)
      → OnOk r (AddsAll g (prepend ts) old new)
  members_continue (Ok v) ts new a h = a.added ts new h
  members_continue (Err e) ts new a h = tt

  pub members_stop : {T : Type 0} (r : Result T Asn1DerError) (ts : Trees) (new : Writing W) {prepend : Trees
      → Trees} {old between : Writing W} → AddsPrepended g prepend old between
      → IfErr r (λ e. RefusesToAddAll g ts between e new) → IfErr r (λ e. RefusesToAddAll g (prepend ts) old e new)
  members_stop (Ok v) ts new a h = tt
  members_stop (Err e) ts new a h = a.refused ts e new h

  -- ---- the list

  -- the first member, and the members after it
  members_parted : (t : Tree) (ts : Trees) (now new : Writing W) → AddsMembers g (Trees.more t ts) now new
      → AddsMember g t now (with_level now (with_member now.level (der t)))
      × AddsAll g ts (with_level now (with_member now.level (der t))) new
  members_parted t ts now new h = (first, others ts h)
    where
      first : AddsMember g t now (with_level now (with_member now.level (der t)))
      first = record { had_not_failed = h.had_not_failed; writable = h.writable.0; added = refl }

      others : (us : Trees) → AddsMembers g (Trees.more t us) now new
          → AddsAll g us (with_level now (with_member now.level (der t))) new
      others Trees.none k = k.added ∙ ap (with_level now) (one_member now.level t)
      others (Trees.more u us) k = record {
        had_not_failed = refl;
        writable = k.writable.1;
        added = k.added ∙ ap (with_level now) (sym (members_after now.level t (Trees.more u us)));
      }

  -- all members were added
  pub members_gained : (kind : ListKind) (ts all : Trees) (old : State W) (now new : Writing W)
      → AddsAll g ts now new → Awaits kind ts all old now → Awaits kind Trees.none all old new
  members_gained kind Trees.none all old now new h a = subst (λ s. Awaits kind Trees.none all old s) (sym h) a
  members_gained kind (Trees.more t ts) all old now new h a =
      let p = members_parted t ts now new h in
      members_gained kind ts all old _ new p.1 (list_gained g kind ts all t old now _ p.0 a)

  -- one of them was refused, so the list is
  pub members_refused : (kind : ListKind) (ts all : Trees) (old : State W) (now last : Writing W) (new : State W)
      (d e : Asn1DerError) → RefusesToAddAll g ts now e last → new.sink ≡ last.sink → new.failed ≡ last.failed
      → d ≡ e → Awaits kind ts all old now → RefusesWrite g (Tree.list kind all) old d new
  members_refused kind Trees.none all old now last new d e h s f i a = absurd h
  members_refused kind (Trees.more t ts) all old now last new d e h s f i a =
      list_stopped g kind (Trees.more t ts) all old now last new d e
      (λ b. members_writable old.around kind b.done (Trees.more t ts)) h s f i a

  -- up to there nothing reached the sink
  pub members_untouched : (kind : ListKind) (ts all : Trees) (old : State W) (now last : Writing W) (e : Asn1DerError)
      → RefusesToAddAll g ts now e last → Awaits kind ts all old now → last.sink ≡ old.sink
  members_untouched kind Trees.none all old now last e h a = absurd h
  members_untouched kind (Trees.more t ts) all old now last e h a = h.same ∙ ap (λ (s : Writing W). s.sink) a.is
