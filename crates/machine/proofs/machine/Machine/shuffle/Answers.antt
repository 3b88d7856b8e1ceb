use Rattle.std.proofs.Common.{ap, ◌∙◌, List}
use Rattle.rm_rules.specs.declared.state.Runner.{Runner}
use Rattle.machine.specs.Inside.{seen_state}
use Rattle.machine.proofs.Inside.{sound_inside, names_inside, bytes_under, seen-shuffled, bytes-shuffled}
use Rattle.machine.proofs.machine.Machine.shuffle.Goals as goal

pub shuffle-requires-clause-sound : goal.shuffle-requires-clause-sound
shuffle-requires-clause-sound c = sound_inside c.self.inside c.args.self.now c.self.view_is c.requires.kept.sound

pub shuffle-requires-clause-same_pools : goal.shuffle-requires-clause-same_pools
shuffle-requires-clause-same_pools c = names_inside c.self.inside c.args.self.now c.self.view_is c.self.invariant c.requires.kept.sized

pub invariant_of-self : goal.invariant_of-self
invariant_of-self c = record {
  bytes =
      ap (bytes_under c.self.inside.definitions c.shuffle.new.self.accounts) c.shuffle.ensures.running
      ∙ bytes-shuffled c.self.inside c.args.self.now c.shuffle.new.self.accounts c.self.view_is c.self.invariant c.requires.kept.sized c.shuffle.ensures.accounts;
  journal = c.self.invariant.journal;
  counted = c.self.invariant.counted;
}

pub returns : goal.returns
returns c =
    ap (λ (l : List Runner). seen_state (record c.self.inside { runs = record { accounts = c.shuffle.new.self.accounts; running = l } })) c.shuffle.ensures.running
    ∙ seen-shuffled c.self.inside c.args.self.now c.shuffle.new.self.accounts c.self.view_is c.self.invariant c.shuffle.ensures.accounts
