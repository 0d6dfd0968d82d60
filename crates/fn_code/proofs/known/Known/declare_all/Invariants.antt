use Rattle.std.proofs.Common.{◌≡◌, ◌++◌, drop, map}
use Rattle.fn_tree.specs.Schemas.{text_of}
use Rattle.fn_code.proofs.known.Known.declare_all.Given as goal

abbrev pub invariant-loop-param : goal.invariant-loop-param
invariant-loop-param l = record {
  schema : l.self.schema ≡ l.initial.self.schema;
  names : l.self.names ++ map text_of (drop l.param-index l.params) ≡ l.initial.self.names ++ map text_of l.params;
  helpers : l.self.helpers ≡ l.initial.self.helpers;
}
