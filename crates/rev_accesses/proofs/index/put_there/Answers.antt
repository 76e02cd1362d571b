use Rattle.rev_causal.specs.Chosen.{without}
use Rattle.rev_accesses.specs.Users.{other}
use Rattle.rev_numbers.specs.Value.{with_number}
use Rattle.rev_accesses.proofs.PlaceLemmas.{changed_there, left_there, others_there}
use Rattle.rev_accesses.proofs.index.put_there.Goals as goal

pub returns-in_err-put-clause-partly : goal.returns-in_err-put-clause-partly
returns-in_err-put-clause-partly c = record {
  but_for = left_there c.args.access c.args.index.now.items c.args.place c.index_mut.result.now c.put.new.self c.requires c.index_mut.ensures.value (without c.args.number) c.in_err-put.ensures.but_for;
  others = others_there c.args.access c.args.index.now.items c.args.place c.index_mut.result.now c.put.new.self c.requires c.index_mut.ensures.value;
}

pub returns-in_err-put-clause-rest : goal.returns-in_err-put-clause-rest
returns-in_err-put-clause-rest c =
    left_there (other c.args.access) c.args.index.now.items c.args.place c.index_mut.result.now c.put.new.self c.requires c.index_mut.ensures.value (λ ks. ks) c.in_err-put.ensures.rest

pub returns-clause-ok : goal.returns-clause-ok
returns-clause-ok c =
    changed_there c.args.access c.args.index.now.items c.args.place c.index_mut.result.now c.put.new.self c.requires c.index_mut.ensures.value (with_number c.args.number) c.in_ok-put.ensures.ok

pub returns-clause-partly : goal.returns-clause-partly
returns-clause-partly c = record {
  but_for = left_there c.args.access c.args.index.now.items c.args.place c.index_mut.result.now c.put.new.self c.requires c.index_mut.ensures.value (without c.args.number) c.in_ok-put.ensures.but_for;
  others = others_there c.args.access c.args.index.now.items c.args.place c.index_mut.result.now c.put.new.self c.requires c.index_mut.ensures.value;
}

pub returns-clause-rest : goal.returns-clause-rest
returns-clause-rest c =
    left_there (other c.args.access) c.args.index.now.items c.args.place c.index_mut.result.now c.put.new.self c.requires c.index_mut.ensures.value (λ ks. ks) c.in_ok-put.ensures.rest
