use Rattle.std.proofs.Common.{[], ◌∷◌, subst, sym}
use Rattle.std.proofs.lemmas.List.{append-nil}
use Rattle.std.specs.Map.{keys_of}
use Rattle.json.specs.Value.{value_view}
use Rattle.shader_ir.specs.SameLaws.{predeclared_decides, scalar_decides}
use Rattle.shader_json_declarations.specs.Keys.{IsKeyed}
use Rattle.shader_json_declarations.specs.declared.special_types.Key.TheVariants.{Dropped, Supported}
use Rattle.shader_json_reader.proofs.AnswerLemmas.{passed_on}
use Rattle.shader_json_declarations.proofs.DistinctLemmas.{distinct_more, keys_more}
use Rattle.shader_json_declarations.proofs.EntryLemmas.{if_within, if_within_both}
use Rattle.shader_json_declarations.proofs.KeyLemmas.{drop_added, dropped_new, entry_added, none_dropped, none_recorded, supported_new}
use Rattle.shader_json_declarations.proofs.special_types.Predeclared.add.Goals as goal

pub returns-in_err-key-clause-accepts : goal.returns-in_err-key-clause-accepts
returns-in_err-key-clause-accepts c = λ x h. passed_on _ _ c.from_residual.ensures.1 (c.in_err-key.ensures.accepts x h.0)

pub returns-in-Supported-default : goal.returns-in-Supported-default
returns-in-Supported-default c =
    let j = value_view c.args.pair.now in
    let key = c.in-Supported-default.key in
    let ty = c.in_ok-key.field-0.1 in
    let old = c.args.self.now in
    let keyed : IsKeyed j (Supported key) ty = subst (λ k. IsKeyed j k ty) c.in-Supported-default.is-0 c.in_ok-key.ensures.reads in
    let read = c.add_entry.result in
    let result = c.within.result in
    let added = c.add_entry.ensures.added in
    let ok = c.within.ensures.ok in
    let err = c.within.ensures.err in
    record {
      stored = if_within read result (λ more. ((key, ty) ∷ [], entry_added j key ty keyed, more)) added ok err;
      dropped = if_within read result (λ _. ([], none_dropped j key ty keyed, sym (append-nil old.dropped.keys))) added ok err;
      keys = if_within_both read result (λ more absent. keys_more old.stored (key, ty) c.add_entry.new.entries more absent) added
          c.add_entry.ensures.absent ok err;
      scalars = if_within read result (λ _ distinct. distinct) added ok err;
      accepts = λ other h. c.within.ensures.accepts (c.add_entry.ensures.accepts predeclared_decides (supported_new j key ty other.0 other.1
          (keys_of old.stored) old.dropped.keys keyed h.0 h.1));
    }

pub returns-in-Dropped-default : goal.returns-in-Dropped-default
returns-in-Dropped-default c =
    let j = value_view c.args.pair.now in
    let scalar = c.in-Dropped-default.scalar in
    let ty = c.in_ok-key.field-0.1 in
    let old = c.args.self.now in
    let keyed : IsKeyed j (Dropped scalar) ty = subst (λ k. IsKeyed j k ty) c.in-Dropped-default.is-0 c.in_ok-key.ensures.reads in
    let read = c.add_key.result in
    let result = c.within-in-Dropped-default.result in
    let added = c.add_key.ensures.added in
    let ok = c.within-in-Dropped-default.ensures.ok in
    let err = c.within-in-Dropped-default.ensures.err in
    record {
      stored = if_within read result (λ _. ([], none_recorded j scalar ty keyed, sym (append-nil old.stored))) added ok err;
      dropped = if_within read result (λ more. (scalar ∷ [], drop_added j scalar ty keyed, more)) added ok err;
      keys = if_within read result (λ _ distinct. distinct) added ok err;
      scalars = if_within_both read result (λ more absent. distinct_more old.dropped.keys scalar c.add_key.new.keys.keys more absent) added
          c.add_key.ensures.absent ok err;
      accepts = λ other h. c.within-in-Dropped-default.ensures.accepts (c.add_key.ensures.accepts scalar_decides
          (dropped_new j scalar ty other.0 other.1 (keys_of old.stored) old.dropped.keys keyed h.0 h.1));
    }
