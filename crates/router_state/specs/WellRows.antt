-- Tests of timers, of the rows of profile tables, and of next numbers. Each test takes the lists that it reads.
use Rattle.std.specs.Prelude.{ℕ, nat_lt, nat_le, ◌==◌, Bool, ◌&&◌, ◌||◌, List, length}
use Rattle.std.specs.List.{list_all}
use Rattle.deploy_model.specs.Deployed.{Deployed, table_attributes}
use Rattle.rows_sorted.specs.Orders.{rises_by, rises_in}
use Rattle.router_state.specs.Fits.{is_drawn, is_u64, is_text, is_value, are_declared}
use Rattle.router_state.specs.Timers.{last_moment}
use Rattle.router_state.specs.Contexts.{is_active}
use Rattle.router_state.specs.Profiles.{row_before, are_unique}
use Rattle.router_state.specs.WellEntities.{all_differ}
use Rattle.router_state.specs.declared.rows.Activity.{Activity}
use Rattle.router_state.specs.declared.rows.Timer.{Timer}
use Rattle.router_state.specs.declared.rows.ProfileRow.{ProfileRow}

-- a timer stands on an Active activity; one of period 0 has one occurrence left
abbrev pub is_timer_row : List Activity → ℕ → Timer → Bool
is_timer_row activities next t =
    is_drawn next t.number.0
    && (is_active activities t.activity.0
    && (nat_le t.next last_moment
    && (nat_le t.period last_moment && (nat_le t.left last_moment && (nat_lt 0 t.period || t.left == 1)))))

-- timers rise, and each row passes
abbrev pub are_timers : List Activity → List Timer → ℕ → Bool
are_timers activities timers next = rises_in (λ row. row.number.0) timers && list_all (is_timer_row activities next) timers

-- a row of a table, with a text for its name, has the table's attributes
abbrev pub is_profile_row : Deployed → ℕ → ℕ → ProfileRow → Bool
is_profile_row d next_activity next_timer row =
    nat_lt row.table (length d.tables)
    && (is_text row.row
    && (are_declared (table_attributes d row.table) row.attributes
    && list_all (λ field. is_value next_activity next_timer field.1) row.attributes))

-- rows rise, each row passes, and they differ where they should
abbrev pub are_rows : Deployed → List ProfileRow → ℕ → ℕ → Bool
are_rows d rows next_activity next_timer =
    rises_by row_before rows && (list_all (is_profile_row d next_activity next_timer) rows && all_differ (are_unique d) rows)

-- a next number is a number of 64 bits from 1
abbrev pub is_next_number : ℕ → Bool
is_next_number n = nat_lt 0 n && is_u64 n
