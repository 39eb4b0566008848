-- An array is read by one call, which borrows the deserializer, and whose result is passed on. Assumes `Logic`.
use mathlib.Core.Path.{refl}
use Prim.Native.Nat.{ℕ, ◌<◌, ◌^◌}
use mathlib.Core.List.{[], ◌∷◌}
use seplogic.Ra.Ura.{Ura}
use base.Fraction.{full_share}
use base.FractionLaws.{common}
use base.Share
use base.Logic.{SProp, ent, sep, emp, ex, wand, wand_i, apply∗, id⊢}
use types.SemTy.{Body as BorBody}
use denote.Memory.{mem}
use base.Fml.{fbor, fsep, Fml, Lft, GName, Share, ftrue, flft, fdead, fres}
use mir.Syntax.{Fn, Dict, Args, Callee, named, a_type, a_number, impl, tcons, tnil, dcons, dnil}
use mir.MapTy.{inst_fn}
use mir.Val.{Val, vptr}
use prog.Memory.{Memory, size}
use prog.Routine.{Routine}
use prog.Wp.{WpFn, Tables}
use sound.WpLaws.{fm_of, WpFn-mono}
use types.Logic.{Logic, sem}
use types.Tokens.{lft_new, lft_end, lft-common}
use types.Kit.{‵, raw, ◌⊛◌, some, later, given, await, updating, show, ◌$◌, ◌∵◌, !, qed, by, now as at_once, move, use0}
use types.Kit.{use1, use2, use3, drop, split, split3, join, pick, learn, fsplit, fjoin, suffices, done}
use types.Run.{stop, addr, and_then, no_more, returns, enter}
use types.ByLocal.{alloc_all, pass_all, free_all, look_at, get, through, sets, lands_as}
use contract.BorrowLft.{◌⊑◌, ⊑_refl, ⊑_trans, meet_⊑_left, meet_⊑_right}
use contract.Lifetimes.{AllOutlive}
use contract.Monad.{Fun, fact, fact_i}
use contract.Running.{tables, tables_of}
use denote.RattleType.{RattleType, owns}
use denote.Laws.{Is, shows}
use denote.Lend.{LentAgain, lends_again, comes_back}
use denote.Param.{ArrayAt, param, copied, number, layout, bounded}
use denote.Param.Laws.{Laws, array_at_laws, copied_laws}
use denote.Ref.{MutRef, mut_vals, mut_Tells}
use denote.Signature.{plain}
use denote.Steps.{nothing, peeks, heard}
use denote.Triple.Call.{calls_at}
use denote.Triple.Clauses.{Clauses, Ended, closing}
use denote.Triple.Entry.{on_entry}
use denote.Triple.Spec.{Meets, triple_of}
use denote.Triple.Statement.{Contract, Triple}
use denote.Triple.Table.{entered}
use denote.Triple.Walked.{Stays, stay_ref, walk_of, ends_at, walked, Goes-ref, walk_Meets}
use denote.Param.NoDrop.{glues}
use Rattle.std.specs.Prelude.{IfOk, IfErr, Ok, Err}
use Rattle.picky_der_de.specs.RefusesBy.{unsaid, RefusesBy}
use Rattle.std.specs.declared.clone.Clone as clone
use Rattle.std.specs.declared.cmp.PartialEq as partial_eq
use Rattle.std.specs.declared.default.Default as default
use Rattle.std.specs.declared.io.traits.Read as read
use Rattle.std.specs.contracts.result.Result as result
use Rattle.std.proofs.result.Result.TheLaws as result_laws
use Rattle.picky_der_core.specs.declared.misc.reader.ReadExt as read_ext
use Rattle.picky_der_core.specs.contracts.error.Asn1DerError as error
use Rattle.picky_der_core.proofs.error.Asn1DerError.TheLaws as error_laws
use Rattle.picky_der_ser.specs.declared.serializer.Serialize as serialize
use Rattle.picky_der_de.specs.Reading.{Reads, Refuses}
use Rattle.picky_der_de.specs.declared.deserialize.Deserialize as deserialize
use Rattle.picky_der_de.specs.declared.impls.arrays.Fill as filled
use Rattle.picky_der_de.specs.contracts.deserializer.Deserializer as deserializer
use Rattle.picky_der_de.specs.contracts.impls.arrays.ArrayFill.TheImpl as impl_of
use Rattle.picky_der_de.proofs.impls.arrays.ArrayFill.TheImpl.Met as impl_met
use Rattle.picky_der_de.specs.contracts.impls.arrays.read_filled as g
use Rattle.picky_der_de.proofs.impls.arrays.read_filled.Symbol.{name as #read_filled}
use Rattle.picky_der_de.proofs.impls.arrays.read_filled.Met.{met as read_filled_met}
use Rattle.picky_der_de.specs.contracts.impls.arrays.ArrayDeserialize.deserialize as f
use Rattle.picky_der_de.specs.contracts.impls.arrays.ArrayDeserialize.deserialize.Key.{name as #self}
use Rattle.picky_der_de.proofs.impls.arrays.ArrayDeserialize.deserialize.Statement.{statement}
use Rattle.picky_der_de.proofs.impls.arrays.ArrayDeserialize.deserialize.Code as code

-- what the impl is at
record At : Type 2 where
  X : RattleType
  LX : Laws X
  n : ℕ
  R : RattleType
  gD : deserialize.Ghosts X.Denot
  dD : Dict
  gS : serialize.Ghosts X.Denot
  dS : Dict
  gE : partial_eq.Ghosts X.Denot
  dE : Dict
  gC : clone.Ghosts X.Denot
  dC : Dict
  gZ : default.Ghosts X.Denot
  dZ : Dict
  gR : read_ext.Ghosts R.Denot
  dR : Dict
  gI : read.Ghosts R.Denot
  dI : Dict

module _ (E : At) where
  abbrev N : RattleType
  N = number E.n

  abbrev args : Args
  args = bounded (a_type ∷ a_number ∷ a_type ∷ []) (E.X, (N, (E.R, tt)))
      (dcons E.dD (dcons E.dS (dcons E.dE (dcons E.dC (dcons E.dZ (dcons E.dR (dcons E.dI dnil)))))))

  abbrev here : Fn
  here = inst_fn args code.function

  -- the array, and the deserializer
  abbrev A : RattleType
  A = ArrayAt (copied 0 E.X) (param 1 N)

  abbrev D : RattleType
  D = deserializer.the_row (param 2 E.R) E.gR E.gI

  abbrev Answer : RattleType
  Answer = result.the_row A error.the_row

  abbrev Answer-laws : Laws Answer
  Answer-laws = result_laws.the_row_laws A error.the_row (array_at_laws 1 (copied 0 E.X) (copied_laws 0 E.X E.LX) E.n)
      error_laws.the_row_laws

  abbrev gA : filled.Ghosts A.Denot
  gA = impl_of.ghosts E.X N E.gD E.dD E.gS E.dS E.gE E.dE E.gC E.dC E.gZ E.dZ

  abbrev dA : Dict
  dA = impl_of.dict E.X N E.gD E.dD E.gS E.dS E.gE E.dE E.gC E.dC E.gZ E.dZ

  abbrev no_drop : Dict
  no_drop = impl ("picky_der_de::Destruct++none::drop" ∷ []) (tcons (layout A) tnil) dnil

  abbrev key : Callee
  key = #read_filled
      (bounded (a_type ∷ a_type ∷ []) (A, (E.R, tt)) (dcons dA (dcons E.dR (dcons E.dI (dcons no_drop dnil)))))

  abbrev ended : Ended
  ended = f.ended E.X N E.R E.gD E.dD E.gS E.dS E.gE E.dE E.gC E.dC E.gZ E.dZ E.gR E.dR E.gI E.dI

  abbrev stayed : Stays ended.signature.params ended.kept
  stayed = (stay_ref (0 ∷ []) tt (plain (λ _. D)), tt)

  abbrev clauses : {M : Type 1} {𝓤 : Ura M} (𝓛 : Logic 𝓤) → (Memory → SProp 𝓤) → (Routine → Fun 𝓤) → Clauses 𝓤 ended
  clauses 𝓛 = f.clauses E.X N E.R E.gD E.dD E.gS E.dS E.gE E.dE E.gC E.dC E.gZ E.dZ E.gR E.dR E.gI E.dI 𝓛

module _ {M : Type 1} {𝓤 : Ura M} (𝓛 : Logic 𝓤) (ρ : Lft) (q : Share) where
  open 𝓛 use {H, A as 𝓐}

  abbrev Ends : ℕ → Share → SProp 𝓤
  Ends a s = wand 𝓤 (𝓐.lft (a ∷ ρ) s) (H.⇛ (sep 𝓤 (𝓐.dead (a ∷ ρ)) (𝓐.lft ρ q)))

  abbrev Begun : ℕ × Share → SProp 𝓤
  Begun p = sep 𝓤 (𝓐.lft (p.0 ∷ ρ) p.1) (Ends p.0 p.1)

  -- a new lifetime inside ρ, with its token, and the way to end it
  begins : ent 𝓤 (𝓐.lft ρ q) (H.⇛ (ex 𝓤 Begun))
  begins =
      qed 𝓛 (‵ (flft ρ q) ∷ []) ∵ updating ! $ lft_new ! tt (λ a.
      let s : Share = (common full_share q).0 in
      let Back' : SProp 𝓤 = wand 𝓤 (𝓐.lft (a ∷ ρ) s) (sep 𝓤 (𝓐.lft (a ∷ []) full_share) (𝓐.lft ρ q)) in
      use2 𝓛 (‵ (flft (a ∷ ρ) s) ⊛ raw Back') (lft-common 𝓛 (a ∷ []) ρ full_share q) $ split ! $ move ! (1 ∷ []) $
      use1 𝓛 (raw (Ends a s))
      (wand_i 𝓤 Back' (𝓐.lft (a ∷ ρ) s) _ (qed 𝓛 (raw Back' ∷ ‵ (flft (a ∷ ρ) s) ∷ []) ∵ updating ! $ move !
      (1 ∷ 0 ∷ []) $
      use2 𝓛 (‵ (flft (a ∷ []) full_share) ⊛ ‵ (flft ρ q))
      (apply∗ 𝓤 (𝓐.lft (a ∷ ρ) s) (sep 𝓤 (𝓐.lft (a ∷ []) full_share) (𝓐.lft ρ q))) $ split ! $ lft_end ! tt $
      use1 𝓛 (‵ (fdead (a ∷ ρ))) (𝓛.lfts.dead-incl (a ∷ ρ) (a ∷ []) (meet_⊑_left (a ∷ []) ρ)) $ at_once ! $ done !)) $
      at_once ! $ show ! Begun (a, s) $ move ! (1 ∷ 0 ∷ []) $ done !)

module _ (E : At) {M : Type 1} {𝓤 : Ura M} (𝓛 : Logic 𝓤) (at_mem : Memory → SProp 𝓤) (run : Routine → Fun 𝓤) where
  open 𝓛 use {H, A as 𝓐}

  abbrev By : Contract 𝓤
  By = triple_of 𝓛 (g.signature (A E) E.R (gA E) (dA E) E.gR E.dR E.gI E.dI (no_drop E))
      (g.spec (A E) E.R (gA E) (dA E) E.gR E.dR E.gI E.dI (no_drop E) 𝓛 at_mem run)

  abbrev lent : Lft → ℕ → ℕ → GName → (D E).Denot → Fml
  lent κ rb ro δ x = (MutRef (named 0) κ (D E)).own_val (record { ref_ptr = (rb, ro); ghost_name = δ; now = x })
      (vptr rb ro ∷ [])

  -- what the call says of its result
  abbrev Read : (D E).Denot → (Answer E).Denot → (D E).Denot → Type 0
  Read x r y = IfOk r (λ v. Reads (gA E).shape x y ((gA E).meaning v))

  abbrev Refused : (D E).Denot → (Answer E).Denot → (D E).Denot → Type 0
  Refused x r y = IfErr r (Refuses (gA E).meaning (gA E).shape x y)

  -- no rule is said of an array
  abbrev RefusedBy : (D E).Denot → (Answer E).Denot → (D E).Denot → Type 0
  RefusedBy x r y = IfErr r (RefusesBy unsaid x y)

  unsaid_by : (x : (D E).Denot) (r : (Answer E).Denot) (y : (D E).Denot) → RefusedBy x r y
  unsaid_by x (Ok v) y = tt
  unsaid_by x (Err e) y = λ j bs left k l. tt

  module _ (κ κT : Lft) (s qT : Share) (rb ro : ℕ) (δ : GName) (x : (D E).Denot) where
    abbrev by_at : By.Ghost
    by_at = (
      (
        (κ, (κT, (κ, tt))),
        (Share.left s, (qT, (Share.right s, tt))),
        (⊑_refl κ, tt),
        (record { ref_ptr = (rb, ro); ghost_name = δ; now = x }, tt),
        (vptr rb ro ∷ [], tt),
      ),
      tt,
    )

    by_goes : κ ⊑ E.R.lives → κT ⊑ E.X.lives
        → ent 𝓤 (sep 𝓤 (𝓐.lft κ s) (sep 𝓤 (sem 𝓛 (lent κ rb ro δ x)) (𝓐.lft κT qT))) (By.pre by_at)
    by_goes inR inX =
        qed 𝓛 (‵ (flft κ s) ∷ ‵ (lent κ rb ro δ x) ∷ ‵ (flft κT qT) ∷ []) ∵
        nothing ! $ use0 𝓛 (raw (fact 𝓤 (κ ⊑ E.R.lives))) (fact_i 𝓤 (κ ⊑ E.R.lives) (emp 𝓤) inR) $ join ! $
        use0 𝓛 (raw (fact 𝓤 (κT ⊑ E.X.lives))) (fact_i 𝓤 (κT ⊑ E.X.lives) (emp 𝓤) inX) $ join ! $
        nothing ! $ move ! (3 ∷ 0 ∷ []) $ fjoin ! $
        move ! (2 ∷ []) $ use1 𝓛 (‵ (flft κ (Share.left s)) ⊛ ‵ (flft κ (Share.right s))) (𝓛.lfts.lft_split κ s) $ split
        ! $
        nothing ! $ move ! (2 ∷ 0 ∷ []) $ join ! $ move ! (4 ∷ 0 ∷ []) $ join ! $ move ! (1 ∷ 0 ∷ []) $ join ! $ join !
        $ join ! $ done !

  module _ (𝓣 : Tables 𝓤 H) (met : Triple 𝓤 (𝓣.C (key E)) By) (κ κT κN κR : Lft) (q qT qN qR : Share)
      (bd : AllOutlive 4 (ended E).signature.outlives (κ, (κT, (κN, (κR, tt)))))
      (inT : κT ⊑ E.X.lives) (inR : κR ⊑ E.R.lives) (rb ro : ℕ) (γ : GName) (x : (D E).Denot) where
    abbrev bound : (walk_of 𝓛 (ended E) (stayed E) (clauses E 𝓛 at_mem run)).Ghost
    bound = (
      (
        (κ, (κT, (κN, (κR, tt)))),
        (q, (qT, (qN, (qR, tt)))),
        bd,
        (record { ref_ptr = (rb, ro); ghost_name = γ; now = x }, tt),
        (vptr rb ro ∷ [], tt),
      ),
      tt,
    )

    abbrev Post : Val → SProp 𝓤
    Post = (walk_of 𝓛 (ended E) (stayed E) (clauses E 𝓛 at_mem run)).post bound

    walk : ent 𝓤 (on_entry 𝓛 (ended E).signature (κ, (κT, (κN, (κR, tt)))) (q, (qT, (qN, (qR, tt))))
        (record { ref_ptr = (rb, ro); ghost_name = γ; now = x }, tt) (vptr rb ro ∷ [], tt))
        (WpFn 𝓤 H 𝓣.C 𝓣.Λ (here E) (vptr rb ro ∷ []) Post)
    walk =
        qed 𝓛 ((‵ (flft κ q) ⊛ ‵ (flft κT qT) ⊛ ‵ (flft κN qN) ⊛ ‵ (flft κR qR) ⊛ ‵ ftrue)
        ∷ ‵ (owns (MutRef (named 0) κ (D E) ∷ []) (record { ref_ptr = (rb, ro); ghost_name = γ; now = x }, tt)
        (vptr rb ro ∷ [], tt)) ∷ []) ∵
        enter ! 𝓣.C 𝓣.Λ (here E) (vptr rb ro ∷ []) _ $ alloc_all ! (λ l. pass_all ! refl ((tt, tt), tt) $
        sets ! (addr ! (through ! refl (stop !))) refl (tt, tt) $
        split3 ! $ move ! (2 ∷ []) $ split3 ! $ move ! (2 ∷ []) $ drop ! $ move ! (4 ∷ []) $ fsplit ! $ move ! (1 ∷ [])
        $ drop ! $
        -- [the reference; N's token; R's; its own; T's]
        move ! (2 ∷ []) $ use1 𝓛
        (later (some (λ (p : ℕ × Share). ‵ (flft (p.0 ∷ κR) p.1) ⊛ raw (Ends 𝓛 κR qR p.0 p.1)))) (begins 𝓛 κR qR) $
        await ! tt $ pick ! (λ p. split ! $
        let κ₁ : Lft = p.0 ∷ κR in
        -- [the new token; the way to end it; the reference; N's token; its own; T's]
        move ! (2 ∷ 4 ∷ []) $ use2 𝓛
        (later (some (λ (δ : GName). ‵ (lent κ₁ rb ro δ x) ⊛ ‵ (LentAgain (D E) κ κ₁ q γ rb ro δ x))))
        (lends_again 𝓛 (D E) (named 0) κ κ₁ q γ rb ro (named 0) x) $ await ! tt $ pick ! (λ δ. split ! $
        -- [the new reference; the way back; the new token; the way to end it; N's token; T's]
        move ! (2 ∷ 0 ∷ 5 ∷ []) $ use3 𝓛 (raw (By.pre (by_at κ₁ κT p.1 qT rb ro δ x)))
        (by_goes κ₁ κT p.1 qT rb ro δ x (⊑_trans κ₁ κR E.R.lives (meet_⊑_right (p.0 ∷ []) κR) inR) inT) $
        calls_at ! (fm_of 𝓤 H 𝓛.laws 𝓣) By met (by_at κ₁ κT p.1 qT rb ro δ x) (and_then ! (get ! refl) (no_more !))
        (λ v.
        use1 𝓛 (later
        (some (λ (r : (Answer E).Denot).
        ((‵ (flft κ₁ (Share.left p.1)) ⊛ ‵ (flft κT qT) ⊛ ‵ (flft κ₁ (Share.right p.1)) ⊛ ‵ ftrue) ⊛ ‵
        ((Answer E).own_val r (v ∷ [])))
        ⊛ some (λ (ws : (D E).Denot × Unit {0}). ‵
        (fsep (fsep (fres δ ((D E).coded.code ws.0)) (fbor κ₁ (BorBody (mem (D E)) rb ro δ))) ftrue) ⊛
        (raw (fact 𝓤 (Read x r ws.0)) ⊛ raw (fact 𝓤 (Refused x r ws.0))))))) (id⊢ 𝓤 _) $ await ! tt $ pick ! (λ r.
        split ! $ move ! (1 ∷ []) $ pick ! (λ ws. split ! $ fsplit ! $ fsplit ! $ move ! (1 ∷ []) $ drop ! $ move !
        (1 ∷ []) $ drop ! $ move ! (1 ∷ []) $ split ! $ heard ! (Read x r ws.0)
        (λ ok. heard ! (Refused x r ws.0) (λ err.
        -- [what the deserializer ends as; the tokens and the result; the way back; the way to end it; N's token]
        move ! (1 ∷ []) $ split ! $ split3 ! $ move ! (2 ∷ []) $ split ! $ move ! (1 ∷ []) $ drop ! $ move !
        (1 ∷ 0 ∷ []) $ use2 𝓛 (‵ (flft κ₁ p.1)) (𝓛.lfts.lft_join κ₁ p.1) $
        -- [the new token; T's; the result; what the deserializer ends as; the way back; the way to end it; N's token]
        move ! (2 ∷ []) $ peeks ! (Answer E) (Is (Answer E)) (shows 𝓛 (Answer E)) r (v ∷ []) (λ is.
        lands_as ! refl refl (((Answer-laws E).lawful 𝓛).typed r (v ∷ []) is).0 $
        move ! (1 ∷ 5 ∷ []) $ use2 𝓛 (later (‵ (fdead κ₁) ⊛ ‵ (flft κR qR))) (apply∗ 𝓤 (𝓐.lft κ₁ p.1) _) $ await ! tt $
        split ! $
        move ! (0 ∷ 5 ∷ 4 ∷ []) $ use3 𝓛 (later (‵ (lent κ rb ro γ ws.0) ⊛ ‵ (flft κ q)))
        (comes_back 𝓛 (D E) (named 0) κ κ₁ q γ rb ro δ x ws.0) $ await ! tt $ split ! $
        -- [the reference; its token; R's; the result; T's token; N's]
        returns ! (look_at ! 0 refl) $ free_all ! refl $
        suffices ! _ (ends_at 𝓛 (ended E) (stayed E) (clauses E 𝓛 at_mem run) bound v r (ws.0, tt) (tt, tt)) $
        nothing ! $ move ! (1 ∷ 0 ∷ []) $ fjoin ! $ move ! (0 ∷ 3 ∷ []) $ join ! $
        nothing ! $ move ! (3 ∷ 0 ∷ []) $ join ! $ move ! (4 ∷ 0 ∷ []) $ join ! $ move ! (3 ∷ 0 ∷ []) $ join ! $ move !
        (2 ∷ 0 ∷ []) $ join ! $ join ! $
        use0 𝓛 (raw (fact 𝓤 (RefusedBy x r ws.0))) (fact_i 𝓤 (RefusedBy x r ws.0) (emp 𝓤) (unsaid_by x r ws.0)) $
        use0 𝓛 (raw (fact 𝓤 (Refused x r ws.0))) (fact_i 𝓤 (Refused x r ws.0) (emp 𝓤) err) $ join ! $ use0 𝓛
        (raw (fact 𝓤 (Read x r ws.0))) (fact_i 𝓤 (Read x r ws.0) (emp 𝓤) ok) $ join ! $ move ! (1 ∷ 0 ∷ []) $ join !
        $ done !)))))))))

  abbrev Fits-in-memory : Type 0
  Fits-in-memory = size (layout (A E)) < 2 ^ 63

  meets : (𝓣 : Tables 𝓤 H) → (Fits-in-memory → Triple 𝓤 (𝓣.C (key E)) By)
      → Meets 𝓛 (ended E).signature (WpFn 𝓤 H 𝓣.C 𝓣.Λ (here E)) (closing 𝓛 (ended E) (clauses E 𝓛 at_mem run))
  meets 𝓣 met =
      walk_Meets 𝓛 (ended E) (stayed E) (Goes-ref 𝓛 4 0 tt (plain (λ _. D E)), tt) (clauses E 𝓛 at_mem run)
      (WpFn 𝓤 H 𝓣.C 𝓣.Λ (here E)) (WpFn-mono 𝓤 H 𝓛.laws 𝓣 (here E))
      (walked 𝓛 (ended E) (stayed E) (clauses E 𝓛 at_mem run) (WpFn 𝓤 H 𝓣.C 𝓣.Λ (here E)) (λ κs. (mut_vals, tt))
      (λ κs. (mut_Tells (named 0) κs.0 (D E), tt))
      (λ κs qs bounds a g are.
      let On : SProp 𝓤 = on_entry 𝓛 (ended E).signature κs qs a (mut_vals a.0, tt) in
      qed 𝓛 (raw On
      ∷ (given (κs.1.0 ⊑ E.X.lives) (‵ ftrue) ⊛ given (κs.1.1.0 ⊑ []) (‵ ftrue) ⊛ given (κs.1.1.1.0 ⊑ E.R.lives)
      (‵ ftrue) ⊛ given Fits-in-memory (‵ ftrue) ⊛ ‵ ftrue) ∷ []) ∵
      move ! (1 ∷ []) $ split3 ! $ learn !
      (λ inT. drop ! $ drop ! $ split3 ! $ learn ! (λ inR. drop ! $ learn ! (λ fit. drop ! $ drop ! $
      by ! (walk 𝓣 (met fit) κs.0 κs.1.0 κs.1.1.0 κs.1.1.1.0 qs.0 qs.1.0 qs.1.1.0 qs.1.1.1.0 bounds inT inR
      a.0.ref_ptr.0 a.0.ref_ptr.1 a.0.ghost_name a.0.now))))))

pub deserialize_spec : {M : Type 1} → statement M
unfolding tables_of Rattle.picky_der_de.proofs.Destruct++none.drop.Code.code
deserialize_spec {M} 𝓤 𝓛 𝓜 𝓡 wired X n R LX fits LR CX gD dD gS dS gE dE gC dC gZ dZ gR dR gI dI mD mS mE mC mZ mR mI =
    let E : At = record {
      X = X;
      LX = LX;
      n = n;
      R = R;
      gD = gD;
      dD = dD;
      gS = gS;
      dS = dS;
      gE = gE;
      dE = dE;
      gC =
          gC;
      dC = dC;
      gZ = gZ;
      dZ = dZ;
      gR = gR;
      dR = dR;
      gI = gI;
      dI = dI;
    } in
    let 𝓣 : Tables 𝓤 𝓛.H = tables_of 𝓤 𝓛.H 𝓜 (tables 𝓤 𝓛.H 𝓜 𝓡 𝓡.env) in
    let LA : Laws (A E) = array_at_laws 1 (copied 0 X) (copied_laws 0 X LX) n in
    entered 𝓤 𝓛.H
    (triple_of 𝓛 (ended E).signature (f.spec X (number n) R gD dD gS dS gE dE gC dC gZ dZ gR dR gI dI 𝓛 𝓜.mem
    𝓡.returns)) 𝓣.C 𝓣.Λ (#self (args E)) (here E) (code.unfolded 𝓤 𝓛.H 𝓜 𝓡 wired (X, (number n, (R, tt))) dD dS dE
    dC dZ dR dI)
    (meets E 𝓛 𝓜.mem 𝓡.returns 𝓣
    (λ fit. read_filled_met 𝓤 𝓛 𝓜 𝓡 (code.calls-picky_der_de::impls::arrays::read_filled 𝓡.env wired) (A E) R LA LR
    (gA E) (dA E) gR dR gI dI (no_drop E)
    (let met = impl_met.bound 𝓡.env (code.calls-picky_der_de::impls::arrays::ArrayFill::unread 𝓡.env wired)
    (code.calls-picky_der_de::impls::arrays::ArrayFill::fill 𝓡.env wired) X n LX fits CX fit gD dD gS dS gE dE gC dC
    gZ dZ M 𝓤 𝓛 𝓜 𝓡
    record { deserialize = mD.deserialize; proved = mD.proved } record { serialize = mS.serialize } record {
      eq =
          mE.eq;
      laws = mE.laws;
    } record { clone = mC.clone } record { default = mZ.default } in
    record { unread = met.unread; fill = met.fill })
    mR mI (glues "picky_der_de::Destruct++none::drop" 𝓡.env (code.calls-picky_der_de::Destruct++none::drop 𝓡.env wired)
    (A E) LA M 𝓤 𝓛 𝓜 𝓡)))
