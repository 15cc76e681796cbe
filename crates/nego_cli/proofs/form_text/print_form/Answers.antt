use Rattle.std.proofs.Common.{◌∙◌, ap}
use Rattle.nego_data.specs.Data.{data_count}
use Rattle.nego_cli.specs.FormText.{choice_numbers}
use Rattle.nego_cli.proofs.FormAtoms.{order_atoms, form_printed, choice_holds}
use Rattle.nego_cli.proofs.form_text.print_form.Goals as goal

pub add_order-requires : goal.add_order-requires
add_order-requires c = order_atoms c.args.d.now c.in_ok-order.order c.in_ok-order.ensures

pub returns-clause-form : goal.returns-clause-form
returns-clause-form c =
    record {
      choice = choice_numbers c.err-choice.result;
      order = c.in_ok-order.order;
      choice_is = choice_holds c.args.d.now c.determined.result c.err-choice.result c.err-choice.ensures.value c.determined.ensures.ok c.determined.ensures.err;
      order_is = c.in_ok-order.ensures;
      printed =
          form_printed c.args.d.now (choice_numbers c.err-choice.result) c.in_ok-order.order c.agents.result c.atoms.result c.outcomes.result c.all.result
          c.new-text.result c.add_count.new.text c.add_count-2.new.text c.add_count-3.new.text c.add_count-4.new.text c.add_determined.new.text c.add_order.new.text
          c.new-text.ensures c.agents.ensures.value c.atoms.ensures.value c.outcomes.ensures.value (c.all.ensures.value ∙ ap data_count c.sizes.ensures)
          c.in_ok-add_count.ensures c.in_ok-add_count-2.ensures c.in_ok-add_count-3.ensures c.in_ok-add_count-4.ensures c.in_ok-add_determined.ensures c.in_ok-add_order.ensures;
    }
