use Rattle.std.proofs.Common.{◌≡◌, drop, false, []}
use Rattle.macro_statements.specs.Mentions.{mentions, defined_names}
use Rattle.macro_statements.proofs.names.survey.Given as goal

-- no word so far says something of what comes before it, and the names so far come after DEFINE
abbrev pub invariant-loop-i : goal.invariant-loop-i
invariant-loop-i l =
    record {
      far : mentions l.in_comment l.in_name (drop l.i l.source) ≡ mentions false false l.source;
      names :
          defined_names l.is_next l.in_comment l.in_name l.names.items (drop l.i l.source)
          ≡ defined_names false false false [] l.source;
    }
