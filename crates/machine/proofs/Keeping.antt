-- What a desk keeps, at its beginning and after each event.
use Rattle.std.proofs.Common.{◌≡◌, ℕ, refl, sym, ap, subst}
use Rattle.rm_base.specs.declared.definitions.Definitions.{Definitions}
use Rattle.rm_base.specs.declared.event.Event.{Event}
use Rattle.rm_rules.specs.State.{State, start}
use Rattle.rm_rules.specs.Step.{step}
use Rattle.rm_rules.specs.Replay.{replay, IsFormed, IsLegal}
use Rattle.rm_rules.specs.Sound.{IsSound}
use Rattle.rm_rules.proofs.Laws.{healthy-start, healthy-step, legal-step, replay-step}
use Rattle.rm_rules.proofs.Histories.{room-step}
use Rattle.machine.specs.Desk.{DeskState, beginning, IsLegalDesk}

pub kept-start : (d : Definitions) (room : ℕ) → IsSound d → IsLegalDesk (record { first = d; state = start d room })
kept-start d room sound = record { sound = sound; healthy = healthy-start d room sound; legal = tt; replays = refl }

pub kept-step : (d : DeskState) (seat at : ℕ) (event : Event) → IsFormed event → IsLegalDesk d → IsLegalDesk (record d { state = (step d.state seat at event).state })
kept-step d seat at event formed h =
    let same = ap (λ (room : ℕ). start d.first room) (sym (room-step d.state seat at event)) in
    let next = (step d.state seat at event).state in
    record {
      sound = h.sound;
      healthy = healthy-step d.state seat at event formed h.healthy;
      legal = subst (λ (s : State). IsLegal s next.journal) same (legal-step (beginning d) d.state seat at event formed h.legal h.replays);
      replays = subst (λ (s : State). replay s next.journal ≡ next) same (replay-step (beginning d) d.state seat at event h.replays);
    }
